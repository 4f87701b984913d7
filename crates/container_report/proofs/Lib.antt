pub mod Bordering
pub mod Counted
