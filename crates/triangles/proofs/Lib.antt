-- The laws of the corners of triangles.
pub mod Corners
pub mod CornerForm
pub mod CornerPlaces
pub mod Beyond
