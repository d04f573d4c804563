pub mod KeyWordsSought
pub mod LayerLines
mod LineWords
pub mod Nearness
pub mod ObjectNames
pub mod OwnLines
pub mod RowsBelow
