pub mod Limits
pub mod Flags
pub mod Header
pub mod Slots
pub mod Create
pub mod Attach
pub mod Whole
