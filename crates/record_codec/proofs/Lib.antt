pub mod Laws
pub mod Codes
pub mod Contents
pub mod Records
