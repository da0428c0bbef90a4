pub mod Reaches
pub mod Lasts
pub mod Stretches
pub mod Nights
pub mod Amid
