pub mod Taking
pub mod Ends
pub mod Flushes
pub mod Holding
pub mod Visiting
