-- The laws of refinement: the weight table, where refined vertices come from, and that exact refinement keeps the
-- spline.
pub mod Tables
pub mod Children
pub mod Means
pub mod SameSpline
