pub mod Asked
pub mod Chunks
pub mod Stepping
pub mod Makings
pub mod Listed
