-- What this crate's functions require of their arguments, and what they give, in terms of document 01's definitions.
pub mod Components
pub mod Halving
pub mod Guess
pub mod Sizes
