pub mod Candidates
pub mod HopWalks
pub mod LfaText
pub mod LoopFree
pub mod steps
