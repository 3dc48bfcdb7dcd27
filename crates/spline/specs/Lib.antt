-- The definitions of the exact spline, of shares and of weights, and the statements about them.
pub mod Spline
pub mod Shares
pub mod Promises
