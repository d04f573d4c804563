-- A text is a game exactly where it has no fault, and then it is what its lines say.
use Rattle.std.proofs.Common.{◌≡◌, ℕ, List, [], ◌∷◌, refl, Option, Some, None}
use Rattle.ps_model.specs.declared.faults.Fault.{Fault}
use Rattle.ps_model.specs.text.Lines.{Line, lines_of}
use Rattle.ps_model.specs.text.TextFaults.{text_fault}
use Rattle.ps_model.specs.game.Games.{game_read, line_faults, game_of_lines, unless, faults, game}

game_at : (o : Option Fault) (lines : List Line)
    → elim o [ Some fault ↦ None | None ↦ game_of_lines lines ] ≡ unless
    (elim o [ Some fault ↦ fault ∷ [] | None ↦ line_faults lines ]) (game_read lines)
game_at (Some fault) lines = refl
game_at None lines = refl

-- the game of a text is what its lines say, unless there is a fault
pub game_unless : (text : List ℕ) → game text ≡ unless (faults text) (game_read (lines_of text))
game_unless text = game_at (text_fault text) (lines_of text)
