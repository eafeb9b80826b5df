pub mod Turns
pub mod Locking
pub mod Draining
pub mod Flushing
pub mod Clients
pub mod Owning
