-- The table of names: which are known, and what is looked up in it.
pub mod KnownEntries
pub mod TableSteps
pub mod TableLaw
