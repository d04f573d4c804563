mod SilentSpots
pub mod SameTurns
mod Unchanged
mod BoardsTaken
mod Leading
mod Loops
mod OwnTurns
mod Results
