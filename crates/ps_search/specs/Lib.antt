pub mod Steps
pub mod Leads
pub mod Covers
pub mod Answers
pub mod Ways
pub mod Searched
pub mod Noted
