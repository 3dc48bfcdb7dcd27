-- How far apart the points of a seam can be on a door with an outline.
pub mod DoorSeam
