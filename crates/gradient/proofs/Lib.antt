-- Laws about this crate's code that several of its proofs cite.
pub mod Answers
pub mod Entries
pub mod Nines
pub mod Rows
pub mod Bytes
pub mod Neighbours
