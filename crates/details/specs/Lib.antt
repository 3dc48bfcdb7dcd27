-- The definitions that contracts cite: details as they are stored, their refusals, and cleaning.
pub mod Details
pub mod Refusals
pub mod Cleaning
