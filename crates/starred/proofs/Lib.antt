pub mod Starred
pub mod Wider
