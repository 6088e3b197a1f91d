pub mod SystemDisk
