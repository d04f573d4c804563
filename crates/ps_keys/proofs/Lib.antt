mod FedPieces
pub mod KeyBytes
