-- The laws of the pieces at a vertex.
pub mod Shares
pub mod Vertices
