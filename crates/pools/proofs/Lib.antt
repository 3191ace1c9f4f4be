mod Changes
pub mod Shown
