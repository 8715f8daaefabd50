pub mod Plain
pub mod More
pub mod Input
pub mod Says
