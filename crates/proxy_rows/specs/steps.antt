pub mod LabelledGraph
pub mod Steps
pub mod Touches
