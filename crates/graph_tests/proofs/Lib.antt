pub mod HandGraphs
pub mod ProxyFiles
pub mod PutSteps
pub mod Reached
