pub mod Turning
pub mod Standing
pub mod Taking
pub mod Settled
pub mod Holding
pub mod Sweeping
pub mod Works
pub mod Courses
