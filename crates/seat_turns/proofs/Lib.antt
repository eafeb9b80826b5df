pub mod Boards
pub mod Turning
pub mod Standing
pub mod Holding
pub mod Growing
pub mod Watching
