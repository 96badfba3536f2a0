pub mod Refusals
pub mod Told
pub mod Lines
pub mod Beside
pub mod Reading
pub mod Sections
pub mod Written
pub mod Laws
