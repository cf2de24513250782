pub mod Hops
pub mod LinesRead
pub mod Parts
pub mod Spelling
pub mod TextLines
pub mod TextRead
pub mod TextRule
pub mod steps
