pub mod Values
pub mod Entries
pub mod Documents
pub mod Clients
pub mod Projects
pub mod Sent
pub mod Got
