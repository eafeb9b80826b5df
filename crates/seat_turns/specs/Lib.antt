pub mod Seats
pub mod Closings
