pub mod text
pub mod names
pub mod rules
pub mod turns
pub mod games
