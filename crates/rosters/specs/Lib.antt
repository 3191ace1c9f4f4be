pub mod Refusals
pub mod Applications
pub mod Rosters
pub mod Stamps
