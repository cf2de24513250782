pub mod Within
pub mod steps
