pub mod Transcript
pub mod Sessions
pub mod Needs
