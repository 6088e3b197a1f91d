pub mod Making
pub mod Renewing
