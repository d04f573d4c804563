use Rattle.std.proofs.Common.{◌∙◌, ◌+◌, ◌*◌, ℕ, Bool, ap, refl}
use Rattle.ps_model.specs.meaning.Compiled.{slot_holds}
use Rattle.ps_board.proofs.PassedColumns.{scanned-none, scanned-more, cell_below}
use Rattle.ps_board.proofs.RowsPassed.{slot_in, row-passed}
use Rattle.ps_board.proofs.list_board.ListBoardBoard.holders.Goals as goal

pub loop-column-init : goal.loop-column-init
loop-column-init c =
    let b = c.args.self.now in
    let passes : ℕ → Bool = λ (x : ℕ). slot_holds c.args.object
    (slot_in b.layers (b.width * b.height) b.slots.items (x * b.height + c.args.row) c.args.layer.0) in
    c.none-holding.ensures ∙ scanned-none passes

pub slot-slot-requires-clause-cell : goal.slot-slot-requires-clause-cell
slot-slot-requires-clause-cell c =
    let b = c.args.self.now in cell_below b.width b.height c.loop-column.column c.args.row c.loop-column-test.true
    c.requires.row

pub loop-column-preserved : goal.loop-column-preserved
loop-column-preserved c =
    let b = c.args.self.now in
    let passes : ℕ → Bool = λ (x : ℕ). slot_holds c.args.object
    (slot_in b.layers (b.width * b.height) b.slots.items (x * b.height + c.args.row) c.args.layer.0) in
    c.with-holding.ensures
    ∙ scanned-more passes c.loop-column.holding c.loop-column.column c.slot_holds.result c.loop-column.invariant
    (c.slot_holds.ensures ∙ ap (slot_holds c.args.object) c.slot-slot.ensures)

pub returns : goal.returns
returns c =
    let b = c.args.self.now in
    c.loop-column.invariant ∙ row-passed (slot_holds c.args.object) b.width b.height b.layers b.slots.items
    c.args.layer.0 c.args.row c.loop-column.column refl c.loop-column-test.false
