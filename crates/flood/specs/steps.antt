pub mod FloodState
pub mod Noting
pub mod Numbers
pub mod Reading
pub mod SharedStore
pub mod Taking
