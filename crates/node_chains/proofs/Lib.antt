pub mod Frames
pub mod Memories
pub mod Moves
pub mod Frees
pub mod Deletes
pub mod Weights
pub mod Items
pub mod Sizes
