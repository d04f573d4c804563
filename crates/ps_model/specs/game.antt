pub mod Games
pub mod Outputs
pub mod Tellings
pub mod Headline
pub mod LevelRuns
pub mod HeldFaults
