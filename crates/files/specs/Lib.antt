pub mod Counts
pub mod Contents
pub mod Parts
pub mod Tables
pub mod Reading
pub mod Writing
