-- The laws of the coarse net.
pub mod CoarseLaws
