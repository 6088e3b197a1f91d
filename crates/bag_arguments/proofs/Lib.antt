pub mod Answering
pub mod Common
pub mod Limits
pub mod Reading
