pub mod Refusals
pub mod Machine
pub mod Calls
