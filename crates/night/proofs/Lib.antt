pub mod Blocks
pub mod Piecewise
