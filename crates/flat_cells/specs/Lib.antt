pub mod Row
pub mod Step
pub mod Shown
pub mod Form
pub mod Laws
