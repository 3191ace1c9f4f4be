pub mod Total
pub mod Rows
pub mod Demand
pub mod Keeps
pub mod Growth
pub mod Law
