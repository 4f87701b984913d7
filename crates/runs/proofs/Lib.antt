pub mod Steps
pub mod Line
pub mod More
pub mod Laws
pub mod Makings
