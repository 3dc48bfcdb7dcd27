-- Laws of refining with an outline.
pub mod CallLaws
pub mod FullOutlines
pub mod FineChecked
pub mod CutOutlines
