pub mod KeptState
pub mod Printed
pub mod Served
pub mod Unstepped
pub mod Viewed
