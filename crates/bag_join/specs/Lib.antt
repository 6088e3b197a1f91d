pub mod Findings
pub mod Join
pub mod Laws
