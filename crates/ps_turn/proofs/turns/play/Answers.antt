use Rattle.std.proofs.Common.{◌≡◌, ◌∙◌, ℕ, List, Option, ap}
use Rattle.ps_model.specs.board.Grid.{Grid}
use Rattle.ps_model.specs.board.Attempts.{State}
use Rattle.ps_model.specs.board.Programs.{Section}
use Rattle.ps_model.specs.board.Turns.{Script}
use Rattle.ps_turn.specs.States.{queue_shown, script_with, state_of}
use Rattle.ps_turn.proofs.Cancelled.{turn_ended, turn_went_on}
use Rattle.ps_turn.proofs.turns.play.Goals as goal

pub returns-then-is_decided-clause-played : goal.returns-then-is_decided-clause-played
returns-then-is_decided-clause-played g c =
    let plain : Option (List ℕ) → List Section = g.R.Rules.meant c.args.rules.now.plain in
    let late : Option (List ℕ) → List Section = g.R.Rules.meant c.args.rules.now.late in
    let table : Option (List ℕ) = g.B.Board.table c.args.board.now in
    let script : Script = script_with c.args.game.now (plain table) (late table) in
    turn_ended script c.args.input (g.B.Board.grid c.args.board.now) (g.B.Board.grid c.prepare.new.board)
    (queue_shown c.new-queue.result) c.args.extent
    (state_of (g.B.Board.grid c.run.new.board) (queue_shown c.run.new.queue))
    (plain (g.B.Board.table c.prepare.new.board)) (ap plain c.prepare.ensures.table) c.prepare.ensures.prepared
    c.new-queue.ensures c.in_ok-run.ensures.ran (c.is_decided.ensures.extent c.if-is_decided.true)
    (c.is_decided.ensures.cancelled c.if-is_decided.true)

pub returns-clause-played : goal.returns-clause-played
returns-clause-played g c =
    let plain : Option (List ℕ) → List Section = g.R.Rules.meant c.args.rules.now.plain in
    let late : Option (List ℕ) → List Section = g.R.Rules.meant c.args.rules.now.late in
    let table : Option (List ℕ) = g.B.Board.table c.args.board.now in
    let script : Script = script_with c.args.game.now (plain table) (late table) in
    turn_went_on script c.args.input (g.B.Board.grid c.args.board.now) (g.B.Board.grid c.prepare.new.board)
    (queue_shown c.new-queue.result) c.args.extent
    (state_of (g.B.Board.grid c.run.new.board) (queue_shown c.run.new.queue))
    (plain (g.B.Board.table c.prepare.new.board)) (ap plain c.prepare.ensures.table) c.prepare.ensures.prepared
    c.new-queue.ensures c.in_ok-run.ensures.ran
    (late (g.B.Board.table c.slide.new.board)) (g.B.Board.grid c.slide.new.board)
    (state_of (g.B.Board.grid c.run-2.new.board) (queue_shown c.run-2.new.queue))
    (ap late (c.slide.ensures.table ∙ c.in_ok-run.ensures.table ∙ c.prepare.ensures.table)) c.slide.ensures.exact
    c.in_ok-run-2.ensures.ran
