pub mod Blocks
pub mod Ear
pub mod Growing
pub mod Marking
