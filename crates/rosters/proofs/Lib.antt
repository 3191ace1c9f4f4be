pub mod Lineups
pub mod Costs
