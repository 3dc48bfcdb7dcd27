-- The laws, for this crate's proofs and for those of the crates above. docs/PROVING.md shows how each is used.
pub mod Parts
pub mod Integers
pub mod Order
pub mod Expressions
pub mod Linear
pub mod Sizes
pub mod SignedCode
pub mod WeightedSumLaws
pub mod RoundingLaws
pub mod FillingLaws
mod Examples
