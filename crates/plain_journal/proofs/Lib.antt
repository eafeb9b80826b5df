pub mod Prefixes
pub mod Replays
pub mod Scanning
pub mod History
pub mod Ease
pub mod Between
pub mod Shown
