pub mod Message
pub mod Needs
pub mod Sha256
pub mod Signed
