-- The laws behind this crate's proofs: components, a byte found or tested, a guessed root tested or mended, the sector.
pub mod Weighing
pub mod Halving
pub mod Ends
pub mod Bits
pub mod Mending
pub mod Testing
pub mod Sectors
