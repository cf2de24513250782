pub mod Numbering
pub mod ProfileStore
pub mod ProfileTaking
pub mod Rooting
pub mod Searching
