pub mod Chunks
pub mod Taking
pub mod Putting
pub mod Splitting
pub mod Laws
pub mod Documented
