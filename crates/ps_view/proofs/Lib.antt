pub mod Such
pub mod LinedUp
pub mod Steps
pub mod ShownRows
pub mod HarmlessRows
pub mod HarmlessViews
pub mod Heights
pub mod Widths
pub mod WordRows
mod ViewRows
pub mod OneSize
pub mod Sight
pub mod FrameRows
pub mod AlikeRows
pub mod KeptFrames
pub mod Marks
mod PiecesTaken
pub mod Unmarked
