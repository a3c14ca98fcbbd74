pub mod Starts
pub mod Writing
