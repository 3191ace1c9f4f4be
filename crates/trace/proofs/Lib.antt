mod Calls
pub mod Sound
