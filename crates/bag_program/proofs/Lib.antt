pub mod Common
pub mod Deeds
pub mod Runs
pub mod Turns
