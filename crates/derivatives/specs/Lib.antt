-- The definitions of the pieces of the exact spline and of their derivatives at a vertex, and the statements about
-- them.
pub mod Pieces
pub mod Promises
