pub mod HandedOn
pub mod Pieces
pub mod Readings
pub mod Spelled
pub mod Spelling
pub mod Works
