-- The laws of the net through given points.
pub mod WideNumbers
pub mod HermiteLaws
pub mod ControlLaws
pub mod Interpolated
pub mod CutGiven
