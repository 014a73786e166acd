pub mod Batches
pub mod Laying
pub mod Passing
pub mod Sessions
