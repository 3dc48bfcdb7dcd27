-- The definitions that contracts cite: words, the file of a net and what stands in the bytes of a file; the numbers of
-- the kinds; 7 and 8; and the bytes as the code takes them.
pub mod NetFile
pub mod Kinds
pub mod LowFirst
pub mod Refusals
pub mod Answers
