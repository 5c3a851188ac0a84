-- Laws about this crate's code that several of its proofs cite.
pub mod Magic
pub mod Rounding
pub mod Taps
pub mod Terms
pub mod Passing
pub mod Convolving
