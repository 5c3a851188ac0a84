-- What this crate's private functions require of their arguments.
pub mod Byte
pub mod Blocks
