pub mod Words
pub mod Numbers
pub mod Unreadable
pub mod Arguments
pub mod Lines
