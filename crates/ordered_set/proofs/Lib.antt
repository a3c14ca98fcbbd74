pub mod Searches
pub mod Members
