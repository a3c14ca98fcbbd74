pub mod Kinds
pub mod Held
pub mod Sound
pub mod Keys
pub mod Edits
pub mod Values
pub mod Counts
