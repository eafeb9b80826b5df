pub mod Handing
pub mod Histories
