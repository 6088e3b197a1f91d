pub mod Findings
pub mod Joined
pub mod LawsHold
pub mod Left
pub mod PartsOfBag
pub mod Placing
pub mod Turns
