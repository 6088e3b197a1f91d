pub mod Checked
pub mod Compared
pub mod FirstFaults
pub mod InTurn
pub mod NewManifests
pub mod OneReading
pub mod Stops
pub mod Summed
