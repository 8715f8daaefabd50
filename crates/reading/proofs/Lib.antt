pub mod Acks
pub mod FirstWord
pub mod Numbers
pub mod Sample
