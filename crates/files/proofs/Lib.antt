pub mod Steps
mod Bodies
pub mod Lengths
pub mod Rows
pub mod Rewritten
pub mod ReadBack
pub mod Accepted
