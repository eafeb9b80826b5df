pub mod Window
pub mod Snapshot
pub mod Scanned
