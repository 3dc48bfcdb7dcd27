-- The laws of stored nets and of steps over them.
pub mod Sides
pub mod StoredNets
pub mod RefinedNets
pub mod RefinedVertices
pub mod PairedRows
pub mod RowBuffers
pub mod StepLaws
