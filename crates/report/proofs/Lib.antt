-- The laws of a loop that tests entry after entry.
pub mod Every
