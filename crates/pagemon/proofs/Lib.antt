pub mod Turns
pub mod Exchange
