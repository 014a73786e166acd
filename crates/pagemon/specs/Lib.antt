pub mod Arrival
pub mod Conversation
pub mod Printed
pub mod Session
