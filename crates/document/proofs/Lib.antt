pub mod Walks
pub mod Search
pub mod Pairs
pub mod Counting
pub mod Marking
pub mod Seeking
pub mod Climbing
