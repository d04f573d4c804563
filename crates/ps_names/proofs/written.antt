-- The lines of the sections as they are written.
pub mod ObjectSteps
pub mod WrittenSteps
