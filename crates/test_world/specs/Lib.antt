pub mod CaseReports
pub mod CaseTar
pub mod Refusing
pub mod RefusingDisk
pub mod Shelf
