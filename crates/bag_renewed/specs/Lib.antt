pub mod Asked
pub mod Elements
pub mod Placed
pub mod Renewed
pub mod Request
pub mod Target
