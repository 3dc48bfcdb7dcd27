-- Laws of walks, of reaching and of links.
pub mod Tests
pub mod WalkLaws
pub mod Reaching
pub mod LinkLaws
