pub mod Digits
pub mod Rests
pub mod Parts
pub mod Widths
pub mod Near
