-- The definitions that contracts cite: places on the door, what the inner functions hand on, and the statements about
-- places on the door.
pub mod Door
pub mod Cells
pub mod Promises
