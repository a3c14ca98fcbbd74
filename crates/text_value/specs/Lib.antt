pub mod Rfc3629
pub mod Units
pub mod Rfc
