pub mod Joinings
pub mod Passable
pub mod LegalBut
pub mod Fence
pub mod Caching
pub mod Sure
