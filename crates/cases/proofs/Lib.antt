-- How far below -1 a signed number reaches, and lists turned into numbers of other types.
pub mod Below
pub mod Turning
