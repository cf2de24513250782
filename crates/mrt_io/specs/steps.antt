pub mod Left
pub mod Opened
