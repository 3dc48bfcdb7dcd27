-- The definitions that contracts cite: from an input to what is printed, and the statement about it.
pub mod Printed
pub mod Promises
