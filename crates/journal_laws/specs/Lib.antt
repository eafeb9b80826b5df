pub mod ClientLaw
pub mod Once
pub mod Mismatch
pub mod CellsLaw
