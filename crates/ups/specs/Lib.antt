-- What the exported functions answer and leave in lent memory.
pub mod Exports
