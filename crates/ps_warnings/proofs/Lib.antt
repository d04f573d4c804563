pub mod CommonBytes
pub mod EntriesBegun
pub mod EntriesWarned
pub mod LayersPassed
pub mod LinesPassed
pub mod MarksMade
pub mod NamesFolded
pub mod ObjectsThere
pub mod OrderKept
pub mod RoomsFound
pub mod RowsPassed
pub mod RulesPassed
pub mod UnusedTold
mod WarningRows
pub mod WarningsMade
pub mod WholeLines
pub mod WordsTold
