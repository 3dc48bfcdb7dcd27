-- The definitions that contracts cite: surface points, the refusals, document 01's number and values of each
-- answer, and the evaluation; and what the steps of the evaluation give.
pub mod SurfacePoint
pub mod Refusals
pub mod Answers
pub mod Evaluation
pub mod Promises
