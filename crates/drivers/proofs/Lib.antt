pub mod Others
pub mod Does
pub mod Keeps
pub mod Follows
