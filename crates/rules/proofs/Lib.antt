pub mod Joined
pub mod Taking
pub mod Plain
pub mod Splitting
pub mod Documented
