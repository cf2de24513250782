pub mod Answering
pub mod Avoiding
pub mod Following
pub mod Shared
pub mod Stepping
