pub mod Exits
pub mod Linking
pub mod Mappings
pub mod Marking
pub mod Slots
pub mod Unmapping
pub mod Windows
