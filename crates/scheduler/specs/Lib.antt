pub mod Answers
pub mod View
pub mod Sealing
pub mod Opening
