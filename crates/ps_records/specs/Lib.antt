pub mod Courses
pub mod Forms
pub mod ReplayObjects
pub mod ReplayWords
pub mod Replays
