-- What this crate's private functions require of their arguments, and what they hold on the way.
pub mod Nine
pub mod Three
pub mod Gives
pub mod Rows
pub mod Bytes
pub mod Entries
pub mod Beside
pub mod Lent
