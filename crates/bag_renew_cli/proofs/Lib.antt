pub mod Answering
pub mod Common
pub mod Lent
pub mod Lines
pub mod Printed
pub mod Statuses
pub mod Texts
