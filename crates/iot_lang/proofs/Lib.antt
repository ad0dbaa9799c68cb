pub mod BytesLaws
pub mod ParsingLaws
pub mod StatementsLaws
pub mod ScriptsLaws
pub mod BlocksLaws
pub mod OpenBlocksLaws
pub mod NestingLaws
pub mod PrintLaws
