-- Laws about the code of this crate and of the filters' loops that several proofs cite.
pub mod Reading
pub mod Writing
