pub mod DiskCalls
pub mod MemoryDisk
