use Rattle.std.proofs.lemmas.List.{length-set}
use Rattle.std.proofs.Common.{arith, ◌∙◌, ℕ, Option, List, [], ◌∷◌, fold, get_or, sym, ap, refl, length}
use Rattle.std.proofs.Common.{subst}
use Rattle.std.proofs.lemmas.Option.{slice_get-get_or}
use Rattle.ps_model.specs.declared.pieces.Direction.{Direction}
use Rattle.ps_model.specs.board.Grid.{Grid}
use Rattle.ps_model.specs.board.Places.{places}
use Rattle.ps_model.specs.board.Attempts.{Result, Rewritten, applied, combinations}
use Rattle.ps_model.specs.rules.SourceRules.{Commands}
use Rattle.ps_model.specs.meaning.RuleMeanings.{CellMeaning}
use Rattle.ps_program.specs.CommandsShown.{commands_shown}
use Rattle.ps_program.specs.Axes.{direction_of}
use Rattle.ps_program.specs.declared.rows.Axis.{Axis}
use Rattle.ps_places.specs.Lines.{part_meaning}
use Rattle.ps_places.specs.PartStarts.{AreStarts}
use Rattle.ps_engine.proofs.Attempting.{attempt_part-written, unchanged}
use Rattle.ps_engine.proofs.Within.{part_room}
use Rattle.ps_engine.specs.Workspaces.{fixed_by}
use Rattle.ps_engine.proofs.one_part.rewrite_found.Goals as goal

pub returns-then-are_independent-clause-attempt : goal.returns-then-are_independent-clause-attempt
returns-then-are_independent-clause-attempt g c =
    let grid : Grid = g.B.Board.grid c.args.work.now.board.now in
    let table : Option (List ℕ) = g.B.Board.table c.args.work.now.board.now in
    let rule = c.args.rule.now in
    let direction : Direction = direction_of rule.axis in
    let board : Grid = g.B.Board.grid c.rewrite_places.new.board in
    let after : Rewritten = record { grid = board; changed = c.rewrite_places.result } in
    ap (λ (q : Commands). let r : Result = record {
      state = record { grid = after.grid; queue = q };
      changed =
          after.changed;
    } in r) c.enter.ensures
    ∙ attempt_part-written table direction rule.rows c.args.part.now rule.rewrites (commands_shown rule.commands.value)
    grid c.args.work.now.queue.now after c.requires.only c.requires.rewrites
    (c.requires.some) c.rewrite_places.ensures.rewritten

pub returns-in-Down-clause-attempt : goal.returns-in-Down-clause-attempt
returns-in-Down-clause-attempt g c =
    let grid : Grid = g.B.Board.grid c.args.work.now.board.now in
    let table : Option (List ℕ) = g.B.Board.table c.args.work.now.board.now in
    let rule = c.args.rule.now in
    let direction : Direction = direction_of rule.axis in
    let m : List CellMeaning = part_meaning table c.args.part.now in
    let board : Grid = g.B.Board.grid c.rewrite_in_turn.new.board in
    let after : Rewritten = record { grid = board; changed = c.rewrite_in_turn.result } in
    ap (λ (q : Commands). let r : Result = record {
      state = record { grid = after.grid; queue = q };
      changed =
          after.changed;
    } in r) c.enter-in-Down.ensures
    ∙ attempt_part-written table direction rule.rows c.args.part.now rule.rewrites (commands_shown rule.commands.value)
    grid c.args.work.now.queue.now after c.requires.only c.requires.rewrites
    (c.requires.some)
    (c.rewrite_in_turn.ensures.rewritten
    ∙ ap (λ (axis : Axis). fold (applied ((m ∷ []) ∷ [])) (unchanged grid)
    (combinations (places grid (direction_of axis) (m ∷ []) ∷ []))) (sym c.in-Down.is))

pub returns-then-are_independent-clause-fixed : goal.returns-then-are_independent-clause-fixed
returns-then-are_independent-clause-fixed g c =
    fixed_by c.rewrite_places.ensures.fixed (length-set c.args.work.now.scratch.now 0
    (get_or c.args.work.now.scratch.now 0 c.index-work-0.result))

pub returns-in-Down-clause-fixed : goal.returns-in-Down-clause-fixed
returns-in-Down-clause-fixed g c =
    fixed_by c.rewrite_in_turn.ensures.fixed (length-set c.args.work.now.scratch.now 0
    (get_or c.args.work.now.scratch.now 0 c.index-work-0.result))

pub rewrite_places-requires-clause-whole : goal.rewrite_places-requires-clause-whole
rewrite_places-requires-clause-whole g c = c.requires.whole

pub rewrite_places-requires-clause-starts : goal.rewrite_places-requires-clause-starts
rewrite_places-requires-clause-starts g c =
    c.requires.kept (get_or c.args.work.now.scratch.now 0 c.index-work-0.result)
    (slice_get-get_or c.args.work.now.scratch.now 0 c.index-work-0.result
    (part_room c.args.rule.now.rows c.args.part.now (length c.args.work.now.scratch.now) c.requires.only c.requires.scratch))

pub rewrite_places-requires-clause-alone : goal.rewrite_places-requires-clause-alone
rewrite_places-requires-clause-alone g c = c.are_independent.ensures c.if-are_independent.true

pub rewrite_in_turn-requires-clause-whole : goal.rewrite_in_turn-requires-clause-whole
rewrite_in_turn-requires-clause-whole g c = c.requires.whole

pub rewrite_in_turn-requires-clause-starts : goal.rewrite_in_turn-requires-clause-starts
rewrite_in_turn-requires-clause-starts g c =
    subst (λ (axis : Axis). AreStarts (g.B.Board.grid c.args.work.now.board.now) (g.B.Board.table c.args.work.now.board.now) axis
    c.args.part.now c.args.starts (get_or c.args.work.now.scratch.now 0 c.index-work-0.result).starts.items) c.in-Down.is
    (c.requires.kept (get_or c.args.work.now.scratch.now 0 c.index-work-0.result)
    (slice_get-get_or c.args.work.now.scratch.now 0 c.index-work-0.result
    (part_room c.args.rule.now.rows c.args.part.now (length c.args.work.now.scratch.now) c.requires.only c.requires.scratch)))

pub attempt_rows-requires-clause-long : goal.attempt_rows-requires-clause-long
attempt_rows-requires-clause-long g c =
    omega (
      arith,
      c.requires.scratch,
      length-set c.args.work.now.scratch.now 0
          (get_or c.args.work.now.scratch.now 0 c.index-work-0.result),
    )

pub attempt_rows-requires-clause-rewrites : goal.attempt_rows-requires-clause-rewrites
attempt_rows-requires-clause-rewrites g c = c.requires.rewrites

pub returns-in-Right-clause-attempt : goal.returns-in-Right-clause-attempt
returns-in-Right-clause-attempt g c = c.attempt_rows.ensures.attempt

pub returns-in-Right-clause-fixed : goal.returns-in-Right-clause-fixed
returns-in-Right-clause-fixed g c =
    c.attempt_rows.ensures.fixed ∙ fixed_by refl (length-set c.args.work.now.scratch.now 0
    (get_or c.args.work.now.scratch.now 0 c.index-work-0.result))

pub bounds-work-0 : goal.bounds-work-0
bounds-work-0 g c =
    part_room c.args.rule.now.rows c.args.part.now (length c.args.work.now.scratch.now) c.requires.only c.requires.scratch
