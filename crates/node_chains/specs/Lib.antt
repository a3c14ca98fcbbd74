pub mod Contents
pub mod Tree
pub mod Chains
pub mod Changes
