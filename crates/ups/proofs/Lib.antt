-- The laws of the exported answers.
mod Exports
