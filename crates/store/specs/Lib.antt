pub mod Sizes
pub mod Faults
pub mod Stretches
