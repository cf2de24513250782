pub mod Input
pub mod Made
pub mod Surveyed
