pub mod Chunks
pub mod Judged
pub mod Joins
