pub mod ObjectsPlain
