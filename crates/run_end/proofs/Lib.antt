pub mod Draining
pub mod Catching
pub mod Rounding
pub mod Handing
