pub mod Rows
pub mod Packs
