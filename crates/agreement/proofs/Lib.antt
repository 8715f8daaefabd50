pub mod ProvedTable
pub mod Channels
pub mod Rejections
pub mod Agreement
pub mod Effects
pub mod When
