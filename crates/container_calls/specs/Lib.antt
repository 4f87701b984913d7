pub mod Performed
pub mod Makings
pub mod Logs
pub mod Series
