pub mod Cases
pub mod Covers
pub mod Decoding
pub mod MemoryKinds
mod Packing
pub mod RoundTrip
