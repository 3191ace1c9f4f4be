pub mod Soundness
pub mod Beginning
