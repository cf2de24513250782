pub mod Attachment
pub mod GraphWith
pub mod LabelledGraph
pub mod ProxyRows
pub mod ProxyText
pub mod Sides
pub mod Standing
pub mod steps
