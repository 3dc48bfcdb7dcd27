-- The definitions that contracts and theorems cite: walks, reaching by rounds, links.
pub mod Walks
pub mod Reaching
pub mod Links
