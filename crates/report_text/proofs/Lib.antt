pub mod Plain
pub mod Message
