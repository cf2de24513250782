pub mod Adds
pub mod TextRead
