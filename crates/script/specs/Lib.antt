pub mod Plain
pub mod Holding
pub mod Lines
pub mod Input
