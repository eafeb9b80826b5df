pub mod Wakes
pub mod Passing
pub mod Unseen
