pub mod Entries
pub mod Proper
pub mod Acts
pub mod Laws
