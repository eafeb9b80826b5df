pub mod Flushing
pub mod FlushingAll
