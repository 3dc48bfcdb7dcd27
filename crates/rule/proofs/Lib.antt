-- The values of a refined number, and rows in lower terms.
pub mod Values
pub mod LowerTerms
