-- The laws of decimal text and of stored text.
pub mod DecimalLaws
pub mod StoringLaws
