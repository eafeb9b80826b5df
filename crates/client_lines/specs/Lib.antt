pub mod Refusals
pub mod Joining
pub mod Lines
