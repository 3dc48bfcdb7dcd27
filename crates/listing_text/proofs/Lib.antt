-- The laws of lines and of pieces.
pub mod LineLaws
pub mod PieceLaws
