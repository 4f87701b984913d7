pub mod Listed
pub mod Names
pub mod Read
