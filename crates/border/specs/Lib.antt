-- What the shared functions give, and what the filters' loops require of their arguments.
pub mod Reading
pub mod Lent
