pub mod text
pub mod names
pub mod rules
pub mod meaning
pub mod board
pub mod session
pub mod game
