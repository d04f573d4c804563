use Rattle.std.proofs.Common.{◌≡◌, ◌∙◌, ◌<◌, ℕ, true, Option, List, [], ◌∷◌, map, get_or, sym, ap, refl, rules, length, arith}
use Rattle.std.proofs.lemmas.List.{length-set}
use Rattle.std.proofs.lemmas.Option.{same_Some, slice_get-get_or}
use Rattle.ps_model.specs.declared.pieces.Direction.{Direction}
use Rattle.ps_model.specs.board.Grid.{Grid}
use Rattle.ps_model.specs.board.Places.{places}
use Rattle.ps_model.specs.board.Attempts.{combinations}
use Rattle.ps_model.specs.meaning.RuleMeanings.{CellMeaning}
use Rattle.ps_program.specs.CommandsShown.{commands_shown}
use Rattle.ps_program.specs.Axes.{direction_of}
use Rattle.ps_places.specs.Lines.{part_meaning}
use Rattle.ps_places.specs.Scratch.{Scratch}
use Rattle.ps_engine.specs.Choosing.{rows_meaning}
use Rattle.ps_engine.proofs.Attempting.{attempt_none, none_alone, only_part_meant}
use Rattle.ps_engine.proofs.ScratchChanged.{get_same}
use Rattle.ps_engine.proofs.Within.{part_room}
use Rattle.ps_engine.specs.Workspaces.{fixed_anew, fixed_by}
use Rattle.ps_engine.proofs.one_part.attempt_part.Goals as goal

pub returns-then-is_empty-clause-attempt : goal.returns-then-is_empty-clause-attempt
returns-then-is_empty-clause-attempt g c =
    let grid : Grid = g.B.Board.grid c.args.work.now.board.now in
    let table : Option (List ℕ) = g.B.Board.table c.args.work.now.board.now in
    let rule = c.args.rule.now in
    let direction : Direction = direction_of rule.axis in
    let meant : List (List (List CellMeaning)) = rows_meaning table rule.rows in
    let m : List CellMeaning = part_meaning table c.args.part.now in
    let only : meant ≡ (m ∷ []) ∷ [] = only_part_meant table rule.rows c.args.part.now c.requires.only in
    let empty : c.is_empty.result ≡ true = c.if-is_empty.true in
    let none : places grid direction (m ∷ []) ≡ [] = c.find_part-starts.ensures.none (c.is_empty.ensures.none empty) in
    attempt_none direction meant rule.rewrites (commands_shown rule.commands.value) grid c.args.work.now.queue.now
    (combinations (map (places grid direction) meant))
    (ap (λ (rows : List (List (List CellMeaning))). combinations (map (places grid direction) rows)) only
    ∙ none_alone (places grid direction (m ∷ [])) none)

pub returns-then-is_empty-clause-fixed : goal.returns-then-is_empty-clause-fixed
returns-then-is_empty-clause-fixed g c =
    fixed_by refl (length-set c.args.work.now.scratch.now 0 c.find_part-starts.new.self)

pub bounds-work-0 : goal.bounds-work-0
bounds-work-0 g c =
    part_room c.args.rule.now.rows c.args.part.now (length c.args.work.now.scratch.now) c.requires.only c.requires.scratch

pub rewrite_found-requires-clause-only : goal.rewrite_found-requires-clause-only
rewrite_found-requires-clause-only g c = c.requires.only

pub rewrite_found-requires-clause-whole : goal.rewrite_found-requires-clause-whole
rewrite_found-requires-clause-whole g c = c.requires.whole

pub rewrite_found-requires-clause-rewrites : goal.rewrite_found-requires-clause-rewrites
rewrite_found-requires-clause-rewrites g c = c.requires.rewrites

pub rewrite_found-requires-clause-some : goal.rewrite_found-requires-clause-some
rewrite_found-requires-clause-some g c = c.find_part-starts.ensures.some (c.is_empty.ensures.some c.if-is_empty.false)

pub rewrite_found-requires-clause-scratch : goal.rewrite_found-requires-clause-scratch
rewrite_found-requires-clause-scratch g c =
    omega (arith, c.requires.scratch, length-set c.args.work.now.scratch.now 0 c.find_part-starts.new.self)

pub rewrite_found-requires-clause-kept : goal.rewrite_found-requires-clause-kept
rewrite_found-requires-clause-kept g c = λ room at.
    let found : Scratch = c.find_part-starts.new.self in
    let low : 0 < length c.args.work.now.scratch.now =
    part_room c.args.rule.now.rows c.args.part.now (length c.args.work.now.scratch.now) c.requires.only c.requires.scratch in
    let own : room ≡ found =
    same_Some room found
    (sym at ∙ get_same c.args.work.now.scratch.now 0 (get_or c.args.work.now.scratch.now 0 found) found
    (slice_get-get_or c.args.work.now.scratch.now 0 found low)) in
    rw own c.find_part-starts.ensures.starts

pub returns-clause-attempt : goal.returns-clause-attempt
returns-clause-attempt g c = c.rewrite_found.ensures.attempt

pub returns-clause-fixed : goal.returns-clause-fixed
returns-clause-fixed g c =
    fixed_anew (search rules) c.rewrite_found.ensures.fixed
    ∙ fixed_by refl (length-set c.args.work.now.scratch.now 0 c.find_part-starts.new.self)
