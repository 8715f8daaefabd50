pub mod ProvedTable
pub mod Demand2
pub mod Effects
pub mod When
pub mod Serial
