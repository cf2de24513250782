pub mod Choosing
pub mod NeighbourPaths
