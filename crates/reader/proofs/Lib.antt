-- The laws of reading: words that are due, and what an accepted file holds.
pub mod Parsing
pub mod ReadLaws
