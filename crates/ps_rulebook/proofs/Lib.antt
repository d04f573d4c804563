pub mod PlayedGames
pub mod RowRooms
