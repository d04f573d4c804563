-- What a view is told of a game, seen as what it knows.
use Rattle.ps_view.specs.Games.{KnownGame}
use Rattle.ps_view.specs.declared.viewed_games.ViewedGame.{ViewedGame}

-- the game
abbrev pub known_of : ViewedGame → KnownGame
known_of game = record { players = game.players.items; heard = game.heard }
