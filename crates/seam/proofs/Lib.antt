-- The laws of a seam: how far apart its points can be, its refusals, its contract, and numbers that do not matter.
pub mod Seam
pub mod RefusalLaws
pub mod CallLaws
pub mod CutNets
