pub mod OfGraph
pub mod Stream
pub mod steps
