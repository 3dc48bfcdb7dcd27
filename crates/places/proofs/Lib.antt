-- The laws of places: cells, shares in order, and the same place at another edge count.
pub mod Cells
pub mod Orders
pub mod EdgeCounts
