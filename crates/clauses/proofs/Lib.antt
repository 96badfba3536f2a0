pub mod Gates
pub mod Differences
mod Rows
pub mod Naming
