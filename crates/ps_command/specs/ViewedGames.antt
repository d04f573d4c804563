-- What a view knows of the game that it shows.
use Rattle.std.specs.Prelude.{◌≡◌, ℕ, not, Some, List}
use Rattle.ps_model.specs.declared.options.Options.{Options}
use Rattle.ps_model.specs.game.Games.{Game, game}
use Rattle.ps_describe.specs.Descriptions.{player_characters}
use Rattle.ps_view.specs.declared.heard_keys.HeardKeys.{HeardKeys}

-- the keys that a game with these options heeds
abbrev pub heard_by : Options → HeardKeys
heard_by options =
    record { acts = not options.no_action; undoes = not options.no_undo; restarts = not options.no_restart }

-- of a text that is a game: the characters that show its Players, and the keys that it heeds
abbrev pub IsToldOf : List ℕ → List ℕ → HeardKeys → Type 0
IsToldOf text characters heard = (read : Game) → game text ≡ Some read →
    (characters ≡ player_characters read.names) × (heard ≡ heard_by read.options)
