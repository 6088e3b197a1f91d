pub mod Common
pub mod HexDigits
pub mod RepeatedLines
