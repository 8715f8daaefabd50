pub mod Text
pub mod Words
pub mod Readers
pub mod Grammar
pub mod FirstWord
