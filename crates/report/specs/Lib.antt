-- What the tests of a line compare.
pub mod Tests
