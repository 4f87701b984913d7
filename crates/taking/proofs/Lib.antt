pub mod Sums
pub mod Rounds
pub mod Copies
pub mod Rules
