pub mod Bounded
pub mod Lists
pub mod Words
