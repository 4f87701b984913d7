pub mod Hex
pub mod Outcomes
