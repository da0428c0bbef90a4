pub mod Sets
pub mod Laws
pub mod Wrapped
pub mod Runs
