-- The laws of splitting.
pub mod SplitLaws
pub mod CutNets
