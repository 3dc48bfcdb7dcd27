-- The definitions that contracts cite: the decimal text of a number, and how text is stored; and the statements about
-- them.
pub mod Decimal
pub mod Storing
pub mod Promises
