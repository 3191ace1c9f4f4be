pub mod History
pub mod Promises
pub mod Reachable
pub mod Example
