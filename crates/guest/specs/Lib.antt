pub mod Meaning
pub mod Needs
