pub mod RunsLaws
pub mod StatesLaws
pub mod KeptLaws
pub mod ScriptsLaws
