pub mod Adding
pub mod Common
pub mod Declining
pub mod OneKind
pub mod Reading
