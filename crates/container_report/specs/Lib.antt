pub mod Borders
pub mod Outcomes
pub mod States
