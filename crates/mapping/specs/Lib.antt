pub mod Meaning
pub mod Needs
pub mod Pieces
