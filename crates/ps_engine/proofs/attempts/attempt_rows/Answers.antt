use Rattle.std.proofs.Common.{◌≡◌, ◌∙◌, ℕ, true, false, Option, List, ◌∷◌, fold, sym, subst, ap, refl, length, arith}
use Rattle.ps_model.specs.board.Grid.{Grid}
use Rattle.ps_model.specs.board.Attempts.{Result, Rewritten, applied, combinations_on, all_fit}
use Rattle.ps_model.specs.rules.SourceRules.{Commands}
use Rattle.ps_program.specs.CommandsShown.{commands_shown}
use Rattle.ps_program.specs.declared.rows.CompiledRow.{CompiledRow}
use Rattle.ps_program.specs.Axes.{direction_of}
use Rattle.ps_program.specs.Sleeping.{rows_sleep}
use Rattle.ps_engine.specs.Choices.{Choice, behind, choices_of, chosen}
use Rattle.ps_engine.specs.Choosing.{ArePlaced, HaveLinesOf, rows_meaning}
use Rattle.ps_engine.specs.RulesInRoom.{rule_meaning}
use Rattle.ps_engine.proofs.Attempting.{attempt_none, attempt_walked, unchanged}
use Rattle.ps_engine.specs.Workspaces.{fixed_by}
use Rattle.ps_engine.proofs.attempts.attempt_rows.Goals as goal

pub returns-then-not-choose_first-clause-attempt : goal.returns-then-not-choose_first-clause-attempt
returns-then-not-choose_first-clause-attempt g c =
    let grid : Grid = g.B.Board.grid c.args.work.now.board.now in
    let table : Option (List ℕ) = g.B.Board.table c.args.work.now.board.now in
    let rule = c.args.rule.now in
    let no : c.choose_first.result ≡ false = c.if-not-choose_first.true in
    attempt_none (direction_of rule.axis) (rows_meaning table rule.rows) rule.rewrites
    (commands_shown rule.commands.value) grid c.args.work.now.queue.now
    (combinations_on grid (rule_meaning table rule)) (c.choose_first.ensures.none no)

pub walk-requires-clause-lines : goal.walk-requires-clause-lines
walk-requires-clause-lines g c =
    let yes : c.choose_first.result ≡ true = c.if-not-choose_first.false in
    subst (λ (rows : List CompiledRow). HaveLinesOf (g.B.Board.grid c.args.work.now.board.now) rows c.choose_first.new.scratch)
    (sym c.as_slice-rows.ensures) (c.choose_first.ensures.lines yes)

pub walk-requires-clause-places : goal.walk-requires-clause-places
walk-requires-clause-places g c =
    let yes : c.choose_first.result ≡ true = c.if-not-choose_first.false in
    subst (λ (rows : List CompiledRow). ArePlaced (g.B.Board.grid c.args.work.now.board.now) rows c.choose_first.new.scratch)
    (sym c.as_slice-rows.ensures) (c.choose_first.ensures.places yes)

pub returns-clause-attempt : goal.returns-clause-attempt
returns-clause-attempt g c =
    let grid : Grid = g.B.Board.grid c.args.work.now.board.now in
    let table : Option (List ℕ) = g.B.Board.table c.args.work.now.board.now in
    let rule = c.args.rule.now in
    let yes : c.choose_first.result ≡ true = c.if-not-choose_first.false in
    let does : rule.rewrites ≡ true = c.requires.rewrites in
    let choices : List Choice = choices_of grid.height rule.rows c.choose_first.new.scratch in
    let all : combinations_on grid (rule_meaning table rule) ≡ chosen choices ∷ behind choices =
    c.choose_first.ensures.found yes in
    let after : Rewritten = record { grid = g.B.Board.grid c.walk.new.board; changed = c.walk.result } in
    let made : after ≡ fold (applied (rows_meaning table rule.rows)) (unchanged grid)
    (combinations_on grid (rule_meaning table rule)) =
    c.walk.ensures.rewritten
    ∙ ap (λ (rs : List CompiledRow). let first : List Choice = choices_of grid.height rs c.choose_first.new.scratch in
    fold (applied (rows_meaning table rs)) (unchanged grid) (chosen first ∷ behind first)) c.as_slice-rows.ensures
    ∙ ap (fold (applied (rows_meaning table rule.rows)) (unchanged grid)) (sym all) in
    ap (λ (q : Commands). let r : Result = record {
      state = record { grid = after.grid; queue = q };
      changed =
          after.changed;
    } in r) c.enter.ensures
    ∙ attempt_walked (direction_of rule.axis) (rows_meaning table rule.rows) rule.rewrites
    (commands_shown rule.commands.value) grid c.args.work.now.queue.now
    (combinations_on grid (rule_meaning table rule)) (chosen choices) (behind choices) after all does made

pub choose_first-requires : goal.choose_first-requires
choose_first-requires g c = c.requires.long

pub returns-then-not-choose_first-clause-fixed : goal.returns-then-not-choose_first-clause-fixed
returns-then-not-choose_first-clause-fixed g c = fixed_by refl c.choose_first.ensures.long

pub walk-requires-clause-asleep : goal.walk-requires-clause-asleep
walk-requires-clause-asleep g c = λ sleeps.
    subst (λ (rows : List CompiledRow). rows_sleep rows ≡ true) (sym c.as_slice-rows.ensures)
    (c.args.rule.now.asleep sleeps)

pub walk-requires-clause-long : goal.walk-requires-clause-long
walk-requires-clause-long g c =
    omega (arith, c.requires.long, c.choose_first.ensures.long, ap length c.as_slice-rows.ensures)

pub walk-requires-clause-fit : goal.walk-requires-clause-fit
walk-requires-clause-fit g c =
    let grid : Grid = g.B.Board.grid c.args.work.now.board.now in
    subst (λ (rows : List CompiledRow). all_fit grid (rows_meaning (g.B.Board.table c.args.work.now.board.now) rows)
    (chosen (choices_of grid.height rows c.choose_first.new.scratch)) ≡ true) (sym c.as_slice-rows.ensures)
    (c.choose_first.ensures.fit c.if-not-choose_first.false)

pub returns-clause-fixed : goal.returns-clause-fixed
returns-clause-fixed g c = fixed_by c.walk.ensures.fixed (c.walk.ensures.long ∙ c.choose_first.ensures.long)
