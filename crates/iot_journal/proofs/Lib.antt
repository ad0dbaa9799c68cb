pub mod DecodingLaws
pub mod ImagesLaws
