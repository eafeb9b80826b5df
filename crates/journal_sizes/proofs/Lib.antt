pub mod Rooms
pub mod Crossing
pub mod Updates
pub mod Clients
pub mod Delivering
pub mod Counts
pub mod Mail
pub mod Units
