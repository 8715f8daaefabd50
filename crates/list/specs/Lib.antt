pub mod Pad
pub mod Find
pub mod Lists
