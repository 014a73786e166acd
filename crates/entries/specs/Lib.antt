pub mod Entries
pub mod Meaning
pub mod Needs
pub mod Rights
pub mod Written
