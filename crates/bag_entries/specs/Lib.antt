pub mod Pool
pub mod Repeats
pub mod Spelled
