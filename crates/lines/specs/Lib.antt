pub mod Added
pub mod Decimal
pub mod Lines
pub mod Stored
