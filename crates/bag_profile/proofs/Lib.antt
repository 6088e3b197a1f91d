pub mod Common
pub mod HeldKeys
pub mod JsonTexts
pub mod Orders
pub mod PatternLaws
pub mod Patterns
pub mod Shapes
pub mod TextSets
