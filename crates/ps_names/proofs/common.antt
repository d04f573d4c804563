-- Lists of elements and of faults, and characters.
pub mod Elements
pub mod MappedTests
pub mod FirstFaults
pub mod Pairs
pub mod Refused
pub mod Characters
pub mod Loops
