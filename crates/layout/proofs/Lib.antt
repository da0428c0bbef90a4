pub mod SizeLaws
pub mod Covered
pub mod Fields
pub mod SlotLaws
pub mod Headed
pub mod Accepted
pub mod FlagLaws
