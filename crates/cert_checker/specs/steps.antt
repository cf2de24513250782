pub mod Found
pub mod KeyTable
pub mod KnownNode
pub mod RowFaults
pub mod Standing
