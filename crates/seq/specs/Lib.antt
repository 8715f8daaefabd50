pub mod Num
pub mod NumLaws
pub mod Prefix
pub mod Rfc1982
