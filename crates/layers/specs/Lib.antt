pub mod Layers
pub mod Faults
pub mod Padding
pub mod PaddedAnswers
pub mod Matching
pub mod Orders
pub mod MatchedAnswers
