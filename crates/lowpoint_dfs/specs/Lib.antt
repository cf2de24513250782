pub mod Lowpoint
pub mod SearchOrder
pub mod SearchTree
pub mod Subtree
pub mod steps
