pub mod Edits
pub mod Maps
pub mod Lists
pub mod Texts
pub mod Updates
pub mod Propers
pub mod Weighing
