pub mod Tables
pub mod Told
pub mod Shelf
