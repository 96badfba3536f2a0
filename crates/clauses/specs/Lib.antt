pub mod Plans
pub mod Parts
pub mod Shapes
pub mod Asked
