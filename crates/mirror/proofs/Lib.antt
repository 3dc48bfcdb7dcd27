-- The laws of mirror images.
pub mod Numbers
pub mod Fields
pub mod Ranges
pub mod Nets
pub mod Multiresolution
pub mod Points
