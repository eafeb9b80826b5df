mod Taking
mod Writing
mod Recording
pub mod Delivering
