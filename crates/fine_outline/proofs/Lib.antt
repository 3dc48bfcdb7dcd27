-- Laws of parents and fine outlines.
pub mod Parents
pub mod FineBytes
pub mod FineDoors
pub mod FineConnected
pub mod FineFronts
pub mod RowLaws
