-- The laws of merging.
pub mod MergeLaws
pub mod CutNets
