pub mod Tests
pub mod Needs
pub mod Tables
pub mod Pieces
pub mod Findings
pub mod Sets
