pub mod Index
pub mod Reading
pub mod Told
pub mod Opening
