pub mod Lasting
pub mod Free
pub mod Sights
pub mod Courses
pub mod Crossing
pub mod Sending
