pub mod Answers
pub mod Parts
pub mod Crossing
pub mod Whys
