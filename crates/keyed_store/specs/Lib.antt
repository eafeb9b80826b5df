pub mod Stores
pub mod Lent
