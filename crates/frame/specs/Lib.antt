-- What this crate's private functions require and promise, and that every printout has room.
pub mod Room
pub mod Running
