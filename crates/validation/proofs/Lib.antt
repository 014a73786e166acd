pub mod Bits
pub mod Clashes
pub mod Covers
pub mod Hashing
pub mod Surveys
