pub mod FirstLevels
pub mod Joined
pub mod ObjectsPlain
pub mod RunStarts
