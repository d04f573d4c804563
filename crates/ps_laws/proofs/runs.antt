pub mod SaidEndings
pub mod LeftToWrite
pub mod RunsNotAllowed
