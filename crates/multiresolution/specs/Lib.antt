-- The statements about splitting, cleaning and merging one after the other, the contracts of the functions that
-- do, and what those do not allow.
pub mod Promises
pub mod Calls
pub mod NotClaimed
