pub mod Courses
pub mod Shares
pub mod Bounds
pub mod Example
