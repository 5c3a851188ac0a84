-- The laws of the walk, from the places around a pixel up to demand 3.
pub mod Classing
pub mod Places
pub mod Visits
pub mod Fits
pub mod Going
pub mod Numbers
pub mod Answering
pub mod Floats
pub mod Invariant
pub mod Steps
pub mod Demand
