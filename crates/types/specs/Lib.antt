pub mod Pick
pub mod Faults
pub mod Refusals
pub mod Answers
pub mod Sides
