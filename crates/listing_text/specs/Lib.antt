-- The definitions that contracts cite: the listing, the statements about it, and what collecting its pieces leaves.
pub mod Listing
pub mod Promises
pub mod Collected
