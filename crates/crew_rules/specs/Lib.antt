pub mod Together
pub mod Courses
