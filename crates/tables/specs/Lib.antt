pub mod Needs
pub mod Counting
pub mod Pieces
