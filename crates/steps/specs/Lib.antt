pub mod Records
pub mod Meaning
pub mod Turns
pub mod Spoilt
