pub mod FaultExits
pub mod Filling
pub mod Footings
pub mod Putting
