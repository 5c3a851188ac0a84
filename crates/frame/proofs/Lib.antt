-- Laws about this crate's code that several of its proofs cite.
pub mod Breaches
pub mod Decimals
pub mod Writing
pub mod Runs
pub mod Printouts
pub mod Suffices
