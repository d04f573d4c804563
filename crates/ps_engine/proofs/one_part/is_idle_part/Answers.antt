use Rattle.std.proofs.Common.{◌∙◌, Option, List, ℕ, [], ◌∷◌, map, ap, refl, length}
use Rattle.std.proofs.lemmas.List.{length-set}
use Rattle.std.proofs.lemmas.Bool.{not-true}
use Rattle.ps_model.specs.declared.pieces.Direction.{Direction}
use Rattle.ps_model.specs.board.Grid.{Grid}
use Rattle.ps_model.specs.board.Places.{places}
use Rattle.ps_model.specs.board.Attempts.{combinations}
use Rattle.ps_model.specs.meaning.RuleMeanings.{CellMeaning}
use Rattle.ps_program.specs.Axes.{direction_of}
use Rattle.ps_places.specs.Lines.{part_meaning}
use Rattle.ps_engine.proofs.Attempting.{none_alone, only_part_meant}
use Rattle.ps_engine.proofs.Within.{part_room}
use Rattle.ps_engine.proofs.one_part.is_idle_part.Goals as goal

pub returns-then-begins_nowhere-clause-idle : goal.returns-then-begins_nowhere-clause-idle
returns-then-begins_nowhere-clause-idle g c = λ e.
    let grid : Grid = g.B.Board.grid c.args.board.now in
    let table : Option (List ℕ) = g.B.Board.table c.args.board.now in
    let rule = c.args.rule.now in
    let direction : Direction = direction_of rule.axis in
    let m : List CellMeaning = part_meaning table c.args.part.now in
    ap (λ (rows : List (List (List CellMeaning))). combinations (map (places grid direction) rows))
    (only_part_meant table rule.rows c.args.part.now c.requires.only)
    ∙ none_alone (places grid direction (m ∷ [])) (c.begins_nowhere.ensures c.if-begins_nowhere.true)

pub returns-clause-idle : goal.returns-clause-idle
returns-clause-idle g c = λ empty.
    let grid : Grid = g.B.Board.grid c.args.board.now in
    let table : Option (List ℕ) = g.B.Board.table c.args.board.now in
    let rule = c.args.rule.now in
    let direction : Direction = direction_of rule.axis in
    let m : List CellMeaning = part_meaning table c.args.part.now in
    ap (λ (rows : List (List (List CellMeaning))). combinations (map (places grid direction) rows))
    (only_part_meant table rule.rows c.args.part.now c.requires.only)
    ∙ none_alone (places grid direction (m ∷ [])) (c.has_part.ensures.none (not-true c.has_part.result empty))

pub returns-then-begins_nowhere-clause-long : goal.returns-then-begins_nowhere-clause-long
returns-then-begins_nowhere-clause-long g c = refl

pub returns-clause-long : goal.returns-clause-long
returns-clause-long g c = length-set c.args.scratch.now 0 c.has_part.new.self

pub bounds-scratch-0 : goal.bounds-scratch-0
bounds-scratch-0 g c =
    part_room c.args.rule.now.rows c.args.part.now (length c.args.scratch.now) c.requires.only c.requires.scratch
