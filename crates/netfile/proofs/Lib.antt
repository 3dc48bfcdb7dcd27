-- The round trip, both ways.
pub mod WrittenFiles
pub mod AcceptedFiles
pub mod CopyLaws
