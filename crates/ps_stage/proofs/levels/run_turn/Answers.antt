use Rattle.std.proofs.Common.{◌∙◌, ℕ, List, ap}
use Rattle.std.specs.Prelude.{Option}
use Rattle.ps_model.specs.board.Grid.{Grid}
use Rattle.ps_model.specs.board.Programs.{Section}
use Rattle.ps_model.specs.board.Turns.{turn}
use Rattle.ps_turn.specs.States.{TurnParts, script_with}
use Rattle.ps_stage.specs.Standings.{turn_parts}
use Rattle.ps_stage.proofs.Scripts.{turns_of_parts}
use Rattle.ps_stage.proofs.levels.run_turn.Goals as goal

pub returns-clause-outcome : goal.returns-clause-outcome
returns-clause-outcome g c =
    let before : Grid = g.B.Board.grid c.args.before.now in
    let plain : Option (List ℕ) → List Section = g.R.Rules.meant c.args.rules.now.plain in
    let late : Option (List ℕ) → List Section = g.R.Rules.meant c.args.rules.now.late in
    let own : Option (List ℕ) = g.B.Board.table_for c.args.game.now.names.layers in
    c.in_ok-turned.ensures.outcome
    ∙ ap (λ (parts : TurnParts). turn (script_with parts (plain (g.B.Board.table c.args.before.now))
    (late (g.B.Board.table c.args.before.now))) c.args.input before) c.turns.ensures
    ∙ ap (λ (table : Option (List ℕ)). turn (script_with (turn_parts c.args.game.now) (plain table) (late table))
    c.args.input before) c.requires.own
    ∙ turns_of_parts c.args.game.now (plain own) (late own) c.args.input before
