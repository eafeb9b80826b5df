pub mod Command
pub mod Earlier
pub mod Fields
pub mod Line
pub mod Names
pub mod Object
pub mod Script
pub mod Standing
