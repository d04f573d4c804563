pub mod PlayedGames
