pub mod Pads
pub mod Matches
