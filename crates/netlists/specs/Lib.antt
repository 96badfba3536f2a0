pub mod Plain
pub mod Sections
