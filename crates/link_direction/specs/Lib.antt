pub mod CommonBlock
pub mod Directed
pub mod Directions
pub mod FromEars
pub mod GadagOrder
pub mod OrderedGadag
pub mod steps
