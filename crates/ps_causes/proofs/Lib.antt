pub mod DeclaredNames
pub mod FoundSlips
pub mod HeaderLines
pub mod LoopLines
pub mod SomeWords
