pub mod Out
pub mod Acks
pub mod Packets
pub mod Made
pub mod Places
pub mod Tests
pub mod Folds
pub mod Good
