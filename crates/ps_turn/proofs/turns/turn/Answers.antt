use Rattle.std.proofs.Common.{◌∙◌, ℕ, List, Option, sym, ap}
use Rattle.ps_model.specs.board.Grid.{Grid}
use Rattle.ps_model.specs.board.Programs.{Section}
use Rattle.ps_model.specs.board.Turns.{Script, outcome_of, played}
use Rattle.ps_laws.proofs.sessions.SessionSteps.{turns_are_outcomes}
use Rattle.ps_turn.specs.States.{queue_shown, script_with, state_of}
use Rattle.ps_turn.proofs.Cancelled.{same_outcome}
use Rattle.ps_turn.proofs.turns.turn.Goals as goal

pub returns-in-Ok-clause-outcome : goal.returns-in-Ok-clause-outcome
returns-in-Ok-clause-outcome g c =
    let before : Grid = g.B.Board.grid c.args.before.now in
    let after : Grid = g.B.Board.grid c.args.after.now in
    let plain : Option (List ℕ) → List Section = g.R.Rules.meant c.args.rules.now.plain in
    let late : Option (List ℕ) → List Section = g.R.Rules.meant c.args.rules.now.late in
    let script : Option (List ℕ) → Script = λ table. script_with c.args.game.now (plain table) (late table) in
    let table : Option (List ℕ) = g.B.Board.table c.args.after.now in
    c.outcome.ensures.outcome
    ∙ same_outcome (script table) c.args.input before c.extent_of-extent.result (played (script table) c.args.input after)
    (state_of (g.B.Board.grid c.play.new.board) (queue_shown c.in-Ok.queue)) c.in-Ok.ensures.played
    c.extent_of-extent.ensures
    ∙ ap (λ (t : Option (List ℕ)). outcome_of (script t) c.args.input before (played (script t) c.args.input after))
    c.requires.table
    ∙ ap (λ (grid : Grid). outcome_of (script (g.B.Board.table c.args.before.now)) c.args.input before
    (played (script (g.B.Board.table c.args.before.now)) c.args.input grid)) c.requires.equal
    ∙ sym (turns_are_outcomes (script (g.B.Board.table c.args.before.now)) c.args.input before)
