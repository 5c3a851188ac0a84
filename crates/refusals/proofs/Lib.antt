-- The laws behind this crate's proofs.
pub mod Searching
pub mod Down
pub mod Refusing
