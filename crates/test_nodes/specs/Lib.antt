pub mod Changing
pub mod Held
pub mod Placing
pub mod PlacingLaw
