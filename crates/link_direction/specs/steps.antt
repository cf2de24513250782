pub mod Counting
pub mod LinksOfNoEar
