pub mod Cases
pub mod Wider
