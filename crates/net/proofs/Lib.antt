-- The laws of nets: faults and their order, ranges, sizes and places in storage, accepted nets.
pub mod Faults
pub mod Ranges
pub mod Results
pub mod Places
pub mod Accepted
pub mod Grids
pub mod Beyond
