pub mod Bytes
pub mod Le
pub mod Wrap
