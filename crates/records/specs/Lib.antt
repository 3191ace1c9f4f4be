pub mod Faults
pub mod Codes
pub mod Words
pub mod Layouts
