pub mod DoneLine
pub mod Faults
pub mod Head
pub mod Held
pub mod Input
pub mod Reports
