pub mod Asked
pub mod Gaining
pub mod Known
pub mod Places
