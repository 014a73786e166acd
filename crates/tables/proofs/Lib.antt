pub mod Admitting
pub mod Changing
pub mod Clearing
pub mod Counting
pub mod TableRecords
