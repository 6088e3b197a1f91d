pub mod HeldCopied
pub mod HeldGone
pub mod HeldMoved
pub mod HeldNames
pub mod HeldNodes
pub mod HeldPut
pub mod Placed
pub mod PutPlaced
