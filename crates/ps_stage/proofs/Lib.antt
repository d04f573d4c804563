mod AgainTurns
mod Entered
mod KeyChanges
mod KeyTurns
mod LevelPlaces
mod OwnRooms
mod PartLoaded
mod Results
mod ShownLevels
mod StepsCompared
pub mod EntriesFound
pub mod OwnBoards
pub mod Scripts
