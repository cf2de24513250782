pub mod Adding
pub mod LinesTaken
pub mod Numerals
pub mod Pieces
pub mod WholeLists
