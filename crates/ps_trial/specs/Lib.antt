pub mod SilentStarts
pub mod SilentKeys
pub mod Scripts
pub mod Told
pub mod TurnsTaken
pub mod Desks
