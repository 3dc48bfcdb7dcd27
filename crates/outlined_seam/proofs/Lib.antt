-- The seam of a door with an outline.
pub mod DoorSeam
