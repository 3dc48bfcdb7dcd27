-- The laws of words.
pub mod WordLaws
