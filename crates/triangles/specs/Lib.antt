-- The definitions that contracts cite: the Bézier points of a triangle, 3 of a triangle, and its control triangles as
-- the code holds them.
pub mod BezierPoints
pub mod Refusals
pub mod Corners
