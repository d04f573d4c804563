pub mod Faults
pub mod GamesInPlay
pub mod GameScripts
pub mod Played
pub mod Runs
pub mod Answering
pub mod SizedPlays
