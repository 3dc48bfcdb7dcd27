-- Laws of points and Bézier nets with an outline.
pub mod RowLaws
pub mod Answers
pub mod BezierNets
pub mod Full
pub mod Beyond
