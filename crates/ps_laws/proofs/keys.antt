pub mod Endings
pub mod Fronts
pub mod HeldKeys
pub mod KeysInPieces
