pub mod Putting
pub mod Splitting
