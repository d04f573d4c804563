mod WinSteps
mod Letters
mod Grounds
mod ColumnSteps
mod RowSteps
mod LevelSteps
pub mod Refusals
mod StretchSteps
mod EntrySteps
mod WrittenRows
mod SizedLevels
mod ObjectSpans
mod GlyphMeanings
pub mod ToldSteps
