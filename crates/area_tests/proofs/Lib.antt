pub mod Within
pub mod Writable
