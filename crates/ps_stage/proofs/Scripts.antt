-- What of a game its turns look at.
use Rattle.std.proofs.Common.{◌≡◌, ◌∙◌, List, ℕ, sym, refl}
use Rattle.std.specs.Prelude.{Option}
use Rattle.ps_model.specs.declared.play.Input.{Input}
use Rattle.ps_model.specs.board.Grid.{Grid}
use Rattle.ps_model.specs.board.Programs.{Section}
use Rattle.ps_model.specs.board.Turns.{turn}
use Rattle.ps_laws.proofs.sessions.SessionSteps.{turns_are_outcomes}
use Rattle.ps_turn.specs.States.{script_with}
use Rattle.ps_stage.specs.Standings.{SessionParts, script_of, script_for, turn_parts}

-- a turn looks at the options, the names, the win conditions and the programs alone
pub turns_of_parts : (parts : SessionParts) (plain late : List Section) (input : Option Input) (g : Grid) →
    turn (script_with (turn_parts parts) plain late) input g ≡ turn (script_of parts plain late) input g
turns_of_parts parts plain late input g =
    turns_are_outcomes (script_with (turn_parts parts) plain late) input g
    ∙ sym (turns_are_outcomes (script_of parts plain late) input g)

-- the same game with rules that are the same
pub same_script : (table_for : List ℕ → Option (List ℕ)) (first parts : SessionParts)
    (plain late those others : Option (List ℕ) → List Section) →
    parts ≡ first → those ≡ plain → others ≡ late →
    script_for table_for parts those others ≡ script_for table_for first plain late
same_script table_for first parts plain late those others a b c = rw (a, b, c) refl
