-- The laws of the evaluation and of surface points.
pub mod Evaluation
pub mod SurfacePoints
pub mod Beyond
pub mod Accepted
