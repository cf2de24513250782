pub mod Finding
pub mod Lowering
