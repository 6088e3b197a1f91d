pub mod Again
pub mod ElementLaws
pub mod OnTheWay
pub mod Renew
pub mod WrittenElements
