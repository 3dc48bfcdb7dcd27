-- The definitions that contracts cite: the net and its storage, and the refusals.
pub mod Net
pub mod Refusals
pub mod Results
