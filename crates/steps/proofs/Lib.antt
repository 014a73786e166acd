pub mod Decoding
pub mod Running
pub mod Upheld
pub mod Arrivals
