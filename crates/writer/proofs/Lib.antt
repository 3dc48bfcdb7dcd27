-- The laws of written files.
pub mod WriteLaws
