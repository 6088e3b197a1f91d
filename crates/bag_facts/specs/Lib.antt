pub mod Facts
pub mod FactsOfBag
pub mod Given
pub mod Stops
pub mod StopsAmong
pub mod TagFacts
pub mod TagReader
pub mod Wanted
