pub mod Summary
pub mod Report
