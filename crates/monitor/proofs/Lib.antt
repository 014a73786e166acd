pub mod Calls
pub mod SevenCalls
