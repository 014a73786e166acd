pub mod Accesses
pub mod Walking
