pub mod Turns
mod Unseen
