pub mod Places
pub mod Outcomes
