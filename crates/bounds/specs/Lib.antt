-- The statements of distance and range, and demand 3 of the definitions.
pub mod Promises
pub mod DemandThree
