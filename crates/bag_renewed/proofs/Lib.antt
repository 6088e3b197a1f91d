pub mod AlgsMade
pub mod Common
pub mod Placing
pub mod Targets
