pub mod Fronts
pub mod Listed
pub mod Decimal
pub mod Named
