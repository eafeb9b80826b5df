pub mod Operation
pub mod Apply
pub mod Compose
pub mod Invert
