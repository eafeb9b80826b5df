pub mod Flushes
pub mod FlushesAll
