mod Cells
mod SameSlots
mod RowsPassed
mod SameRows
pub mod ColumnLaws
pub mod EmptySets
pub mod Taken
pub mod WordBits
pub mod Bits
pub mod WordSteps
pub mod JoinedWords
pub mod EmptyWords
pub mod OneOfWords
pub mod MovedWords
pub mod HighWords
pub mod FirstOfWords
pub mod PassedColumns
pub mod Differing
pub mod OneColumn
pub mod AllRows
pub mod CellLaws
pub mod LayerObjects
