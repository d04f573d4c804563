use Rattle.std.proofs.Common.{rules, ◌≡◌, ◌∙◌, ◌<◌, ◌||◌, true, false, List, length, sym, ap}
use Rattle.std.proofs.Math.Bool.{or-false}
use Rattle.ps_model.specs.declared.pieces.Slot.{Slot}
use Rattle.ps_model.specs.board.Grid.{Grid}
use Rattle.ps_model.specs.board.Attempts.{Rewritten}
use Rattle.ps_model.specs.meaning.Compiled.{cell_written}
use Rattle.ps_program.specs.ProgramShown.{write_shown}
use Rattle.ps_match.specs.InRoom.{write_in_room}
use Rattle.ps_match.proofs.Chosen.{if-left, if-written}
use Rattle.ps_match.proofs.rewriting.write_if.Goals as goal

pub returns-then-not-wanted-clause-grid : goal.returns-then-not-wanted-clause-grid
returns-then-not-wanted-clause-grid g c =
    let start : Grid = g.B.Board.grid c.args.board.now in
    let becomes : List Slot → List Slot = cell_written
    (write_in_room (g.B.Board.table c.args.board.now) (write_shown c.args.write.now)) in
    let off : c.args.wanted ≡ false = search rules in
    sym (ap (λ (r : Rewritten). r.grid) (if-left start becomes c.args.wanted c.args.cell off))

pub returns-then-not-wanted-clause-changed : goal.returns-then-not-wanted-clause-changed
returns-then-not-wanted-clause-changed g c =
    let start : Grid = g.B.Board.grid c.args.board.now in
    let becomes : List Slot → List Slot = cell_written
    (write_in_room (g.B.Board.table c.args.board.now) (write_shown c.args.write.now)) in
    let off : c.args.wanted ≡ false = search rules in
    sym (ap (λ (r : Rewritten). c.args.changed || r.changed) (if-left start becomes c.args.wanted c.args.cell off)
    ∙ or-false c.args.changed)

pub returns-clause-grid : goal.returns-clause-grid
returns-clause-grid g c =
    let start : Grid = g.B.Board.grid c.args.board.now in
    let becomes : List Slot → List Slot = cell_written
    (write_in_room (g.B.Board.table c.args.board.now) (write_shown c.args.write.now)) in
    let on : c.args.wanted ≡ true = search rules in
    let low : c.args.cell < length start.cells = rw c.recall_shape.ensures.shape.cells c.requires in
    c.write_cell.ensures.grid ∙ sym (ap (λ (r : Rewritten).
    r.grid) (if-written start becomes c.args.wanted c.args.cell on low))

pub returns-clause-changed : goal.returns-clause-changed
returns-clause-changed g c =
    let start : Grid = g.B.Board.grid c.args.board.now in
    let becomes : List Slot → List Slot = cell_written
    (write_in_room (g.B.Board.table c.args.board.now) (write_shown c.args.write.now)) in
    let on : c.args.wanted ≡ true = search rules in
    let low : c.args.cell < length start.cells = rw c.recall_shape.ensures.shape.cells c.requires in
    c.write_cell.ensures.changed ∙ sym (ap (λ (r : Rewritten).
    c.args.changed || r.changed) (if-written start becomes c.args.wanted c.args.cell on low))
