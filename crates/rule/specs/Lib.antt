-- The precondition of the rule in lower terms.
pub mod Reduced
