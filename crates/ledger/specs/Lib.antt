pub mod Meaning
pub mod Layout
pub mod Refusals
pub mod Needs
pub mod Regions
pub mod Counters
pub mod Pieces
