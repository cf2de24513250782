pub mod Arrow
pub mod Blocks
pub mod Source
pub mod Tagging
