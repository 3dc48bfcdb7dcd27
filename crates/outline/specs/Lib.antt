-- The definitions that contracts cite: the layout of an outline, connected triangles, the refusals, the answers, and
-- what is promised of them; and what the search keeps.
pub mod Outline
pub mod Connected
pub mod Refusals
pub mod Answers
pub mod Promises
pub mod Search
