pub mod Checks
pub mod CutOffLines
