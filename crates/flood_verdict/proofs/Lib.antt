pub mod OneVerdict
pub mod AlikeTold
pub mod Finding
pub mod Comparing
pub mod SomeText
pub mod SomeVerdict
