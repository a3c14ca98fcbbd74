pub mod Indexing
pub mod Scanning
pub mod Finding
pub mod Held
