pub mod Lasts
pub mod Sweeping
pub mod Seen
pub mod Whole
pub mod Handing
pub mod Clients
