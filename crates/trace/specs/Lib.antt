pub mod Split
pub mod View
