pub mod Behind
pub mod Histories
pub mod IgnoredKeys
pub mod KeyAnswers
pub mod Left
pub mod OwnBoards
pub mod Phases
pub mod RestedSessions
