-- Laws of outlines.
pub mod ByteLaws
pub mod Numbers
pub mod Edges
pub mod Connected
pub mod CutOutlines
pub mod FullOutlines
pub mod SearchLaws
pub mod Searching
