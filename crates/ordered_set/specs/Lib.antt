pub mod Orders
pub mod Sets
pub mod Keys
