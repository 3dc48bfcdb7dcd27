-- The definitions that contracts cite: places, the refusal of a place, and what the functions of places hand on.
pub mod Places
pub mod Refusals
pub mod Located
