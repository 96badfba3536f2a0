pub mod Words
pub mod Summed
