-- What a board can do with a compiled program.
use Rattle.std.specs.Prelude.{◌≡◌, ℕ, Option, List, All}
use Rattle.ps_model.specs.declared.pieces.LayerId.{LayerId}
use Rattle.ps_model.specs.names.Names.{Names}
use Rattle.ps_model.specs.rules.SourceRules.{RuleLine}
use Rattle.ps_model.specs.meaning.GameRules.{IsLineOf}
use Rattle.ps_model.specs.meaning.Compiled.{CompiledSection}
use Rattle.ps_board.specs.Rooms.{HaveRoom, layer_numbers}
use Rattle.ps_board.specs.Runnable.{IsRunnable}

-- if the source lines are lines of the game: a board on which each object of the game has room on its own layer can run
-- the sections as they are
abbrev pub RunsOnBoards : Names → List RuleLine → List CompiledSection → Type 0
RunsOnBoards names lines sections =
    All (IsLineOf names) lines → (table : Option (List ℕ)) (layers : List LayerId) →
    layer_numbers layers ≡ names.layers → HaveRoom table layers → IsRunnable table sections
