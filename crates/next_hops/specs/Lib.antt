pub mod Causes
pub mod Failures
pub mod NextHops
pub mod steps
