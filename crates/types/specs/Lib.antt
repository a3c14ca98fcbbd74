pub mod Refusals
pub mod Identities
pub mod Kinds
pub mod Values
pub mod Limits
