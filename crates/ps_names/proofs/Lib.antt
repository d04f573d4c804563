pub mod common
pub mod written
pub mod tables
pub mod mentions
pub mod standing
pub mod wholes
pub mod bounds
