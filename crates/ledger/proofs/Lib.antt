pub mod Blocks
pub mod Counting
pub mod Fields
pub mod Fits
pub mod Judge
pub mod Marking
mod MemoryKinds
pub mod Records
pub mod Regions
