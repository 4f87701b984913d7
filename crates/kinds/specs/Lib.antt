pub mod Pattern
pub mod Worth
pub mod Patterns
