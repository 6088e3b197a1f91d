pub mod Changed
pub mod Common
mod Counting
pub mod Folders
pub mod InMemory
pub mod Listed
pub mod MemoryFiles
pub mod MovedBag
pub mod MovedFiles
pub mod Parents
pub mod Passing
