-- What this crate's functions promise.
pub mod Cleared
