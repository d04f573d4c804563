pub mod Sets
pub mod CellsChanged
pub mod Marks
pub mod Steps
pub mod Listed
pub mod MemberRanges
pub mod Moves
pub mod PutAlready
pub mod Puts
pub mod Tables
pub mod Rests
pub mod Whole
pub mod Scans
pub mod RowsKept
pub mod KeptRowByRow
mod KeptInSet
pub mod UnmarkedRows
pub mod RowsOfPlanes
pub mod Rows
pub mod Alike
pub mod RowSets
pub mod Differences
pub mod BlankPlanes
pub mod UsedPlanes
pub mod SameRows
pub mod Absent
pub mod Marked
pub mod RowChanges
pub mod SlotChanges
pub mod LayerChanges
pub mod LayerWritten
pub mod RowsWritten
pub mod Unmarked
pub mod PlaneCopies
pub mod RowsDiffering
pub mod Unlike
pub mod SameWords
pub mod RowCopies
pub mod OneCell
pub mod RowDifferences
mod RowsAdded
mod MixedPlanes
mod RowsApart
mod RowsCleared
mod MixedBoards
mod CopiedBoards
pub mod RowHistories
pub mod TopicsTold
pub mod LayersTouched
pub mod Untouched
pub mod Touched
pub mod Shifts
mod Passed
mod LayerMotions
mod Joined
pub mod KeyBits
pub mod NotedPlaces
pub mod TurnedKeys
pub mod TurnedPlaces
mod TurnedPlanes
mod PackedBoards
mod PackedAlike
