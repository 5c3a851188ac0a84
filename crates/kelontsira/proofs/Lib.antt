-- The laws by which an export answers as the call it wraps.
pub mod Modes
pub mod Lent
