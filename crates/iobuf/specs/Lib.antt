pub mod Values
pub mod Kinds
