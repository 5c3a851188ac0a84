-- What this crate's functions promise.
pub mod Cases
pub mod Lines
pub mod Lists
