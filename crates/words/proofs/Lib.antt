pub mod Bounded
pub mod Fields
pub mod Lists
pub mod Words
pub mod Sums
pub mod Scans
