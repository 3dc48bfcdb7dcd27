-- The laws of details.
pub mod DetailLaws
pub mod CutDetails
