pub mod Seen
pub mod Refused
pub mod Contents
