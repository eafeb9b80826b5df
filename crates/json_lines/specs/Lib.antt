pub mod Clean
pub mod Formed
pub mod Law
pub mod Lines
pub mod Object
pub mod Reading
pub mod Utf8
