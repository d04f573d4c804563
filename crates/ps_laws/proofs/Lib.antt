pub mod masks
pub mod texts
pub mod grids
pub mod alike
pub mod keys
pub mod common
pub mod sessions
pub mod runs
