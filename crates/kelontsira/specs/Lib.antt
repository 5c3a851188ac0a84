-- What the exports answer, told from the calls they wrap.
pub mod Exports
