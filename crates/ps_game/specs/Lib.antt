pub mod Finds
pub mod ToldFaults
pub mod ToldLaws
