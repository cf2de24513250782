pub mod AddsLines
pub mod LineParts
pub mod Uses
pub mod Viewed
