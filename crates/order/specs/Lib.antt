pub mod Entries
pub mod Sending
pub mod Budgets
pub mod Workloads
