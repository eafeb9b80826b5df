pub mod Placing
pub mod Telling
pub mod Rooming
pub mod Sources
pub mod Committing
pub mod Receiving
