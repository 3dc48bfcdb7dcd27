-- The definitions of mirror images, worked cases of them, and the statements about the calls.
pub mod Mirror
pub mod Cases
pub mod Promises
