-- The laws of the six points and of the averages.
pub mod SmallTriangles
pub mod Averaging
