pub mod Causes
pub mod Comes
pub mod Headline
pub mod Run
