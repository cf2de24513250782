pub mod Alike
pub mod OfLsas
pub mod Says
pub mod steps
