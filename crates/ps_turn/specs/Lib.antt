pub mod RowsOfCells
pub mod States
pub mod Sweeps
pub mod FirstCells
