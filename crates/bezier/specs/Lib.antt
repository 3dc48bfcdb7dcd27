-- The definitions that contracts cite: the Bézier net, the refusals, document 01's number of each answer, and
-- what the inner functions hand on.
pub mod BezierNet
pub mod Refusals
pub mod Answers
pub mod Weights
