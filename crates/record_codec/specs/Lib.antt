pub mod Codec
pub mod Layout
pub mod Seen
pub mod Theorems
