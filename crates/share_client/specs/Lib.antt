pub mod Shifts
pub mod Edits
pub mod Clients
pub mod Returning
pub mod Bounds
