pub mod ColorTable
pub mod Failed
pub mod OrderChoice
pub mod OrderText
pub mod Source
pub mod steps
