pub mod Slots
pub mod Model
pub mod Steps
