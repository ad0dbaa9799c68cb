pub mod BytesLaws
pub mod ImagesLaws
pub mod RecordsLaws
