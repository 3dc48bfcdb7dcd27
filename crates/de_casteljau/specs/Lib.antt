-- The definitions that contracts cite: the six Bézier points of a small triangle, and de Casteljau's averages; and the
-- statements about them.
pub mod Ordinates
pub mod Averages
pub mod Promises
