use Rattle.std.proofs.Common.{◌≡◌, ◌∙◌, ℕ, ◌||◌, false, not, Option, List, sym, ap, rules}
use Rattle.ps_model.specs.declared.pieces.Slot.{Slot}
use Rattle.ps_model.specs.board.Grid.{Grid, slot_at, with_slot}
use Rattle.ps_model.specs.board.Attempts.{same_slot}
use Rattle.ps_model.specs.meaning.Compiled.{CellWrite}
use Rattle.ps_program.specs.ProgramShown.{write_shown}
use Rattle.ps_match.specs.Touches.{touches}
use Rattle.ps_match.proofs.OwnWrites.{room_after}
use Rattle.ps_match.proofs.LeftAlone.{no_change, same_grid, untouched}
use Rattle.ps_match.proofs.writing.write_slot.Goals as goal

pub put_slot-requires-clause-room : goal.put_slot-requires-clause-room
put_slot-requires-clause-room g c =
    rw c.slot_after-after.ensures (room_after (g.B.Board.table c.args.board.now) c.args.layer.0
    (write_shown c.args.write.now) c.slot-before.result c.slot-before.ensures.room)

pub returns-then-not-touches-clause-grid : goal.returns-then-not-touches-clause-grid
returns-then-not-touches-clause-grid g c =
    let grid : Grid = g.B.Board.grid c.args.board.now in
    let table : Option (List ℕ) = g.B.Board.table c.args.board.now in
    let write : CellWrite = write_shown c.args.write.now in
    let layer : ℕ = c.args.layer.0 in
    let before : Slot = slot_at grid c.args.cell layer in
    let told : c.touches.result ≡ false = search rules in
    let none : touches write layer ≡ false = sym c.touches.ensures ∙ told in
    sym (ap (with_slot grid c.args.cell layer) (untouched table layer write before none)
    ∙ same_grid grid c.args.cell layer)

pub returns-then-not-touches-clause-changed : goal.returns-then-not-touches-clause-changed
returns-then-not-touches-clause-changed g c =
    let grid : Grid = g.B.Board.grid c.args.board.now in
    let table : Option (List ℕ) = g.B.Board.table c.args.board.now in
    let write : CellWrite = write_shown c.args.write.now in
    let layer : ℕ = c.args.layer.0 in
    let before : Slot = slot_at grid c.args.cell layer in
    let told : c.touches.result ≡ false = search rules in
    let none : touches write layer ≡ false = sym c.touches.ensures ∙ told in
    sym (ap (λ (after : Slot). c.args.changed || not (same_slot before after))
    (untouched table layer write before none) ∙ no_change c.args.changed before)
