-- The definitions that contracts cite: the refined net as it is stored, and the preconditions of the steps.
pub mod RefinedNet
pub mod Steps
