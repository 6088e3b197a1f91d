pub mod Arms
pub mod Asked
pub mod Checks
pub mod Common
pub mod Joins
pub mod Makings
pub mod OverHonest
pub mod Tars
