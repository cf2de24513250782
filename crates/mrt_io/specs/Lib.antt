pub mod Counts
pub mod Holding
pub mod Left
pub mod Memory
pub mod Named
pub mod Writing
pub mod steps
