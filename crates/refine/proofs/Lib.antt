-- The laws of refining: sizes and steps that are not refused, answers, and numbers that do not matter.
pub mod Depths
pub mod CallLaws
pub mod Refinable
pub mod CutNets
