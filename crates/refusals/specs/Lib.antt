-- What this crate's functions test, in terms of document 01's rows.
pub mod Rows
