-- Distance, range, and demand 3 of the definitions.
pub mod Distance
pub mod Range
pub mod DemandThree
pub mod SamePlaces
