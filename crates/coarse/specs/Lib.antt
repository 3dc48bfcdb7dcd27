-- The definitions that contracts cite: the coarse net of a net, and its rule at one vertex.
pub mod Coarse
