pub mod Computation
pub mod Padded
pub mod Places
pub mod Search
