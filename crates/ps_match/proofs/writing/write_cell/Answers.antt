use Rattle.std.proofs.Common.{◌≡◌, ◌∙◌, ℕ, ◌<◌, ◌≤◌, ◌+◌, ◌||◌, Bool, List, [], not, length, get_or, ap, sym, arith}
use Rattle.std.proofs.Common.{take, drop, ◌++◌, refl}
use Rattle.ps_model.specs.declared.pieces.Slot.{Slot}
use Rattle.ps_model.specs.declared.pieces.Slot.TheVariants.{Bare}
use Rattle.ps_model.specs.board.Grid.{Grid, cell_at, slot_at}
use Rattle.ps_model.specs.board.Attempts.{same_cell, same_slot}
use Rattle.ps_model.specs.meaning.Compiled.{CellWrite, cell_written}
use Rattle.ps_program.specs.ProgramShown.{write_shown}
use Rattle.ps_match.specs.InRoom.{slot_after, write_in_room}
use Rattle.ps_match.proofs.Cells.{length-written_from, get_or-written_from, one_more_slot, all_slots, changed_more}
use Rattle.ps_match.proofs.Cells.{changed_all, with_cell_of, mixed-get}
use Rattle.std.proofs.lemmas.List.{get_or-set_same, set-get_or}
use Rattle.ps_match.proofs.writing.write_cell.Goals as goal

pub write_slot-any-requires : goal.write_slot-any-requires
write_slot-any-requires g c = rw c.loop-layer.invariant.grid (c.requires.cell, omega arith)

pub loop-layer-init : goal.loop-layer-init
loop-layer-init g c =
    let start : Grid = g.B.Board.grid c.args.board.now in
    record {
      grid = ap (λ (cells : List (List Slot)). let h : Grid = record start { cells = cells } in
          h) (sym (set-get_or start.cells c.args.cell []));
      changed = refl;
      table = refl;
      origin = refl;
    }

pub loop-layer-preserved : goal.loop-layer-preserved
loop-layer-preserved g c =
    let start : Grid = g.B.Board.grid c.args.board.now in
    let now : Grid = g.B.Board.grid c.loop-layer.board in
    let write : CellWrite = write_in_room (g.B.Board.table c.args.board.now) (write_shown c.args.write.now) in
    let old : List Slot = cell_at start c.args.cell in
    let new : List Slot = cell_written write old in
    let layer : ℕ = c.loop-layer.layer in
    let within : c.args.cell < length start.cells = rw c.requires.shape.cells c.requires.cell in
    let slots : length old ≡ start.layers = c.requires.shape.slots c.args.cell _ within in
    let low : layer < length old = rw slots (omega arith) in
    let same : length new ≡ length old = length-written_from write 0 old in
    let is : get_or new layer Bare ≡ slot_after write layer (get_or old layer Bare) =
    let none : 0 + layer ≡ layer = omega arith in
    get_or-written_from write 0 old layer low ∙ ap (λ (n : ℕ). slot_after write n (get_or old layer Bare)) none in
    let made : now ≡ with_cell_of start c.args.cell (take layer new ++ drop layer old) = c.loop-layer.invariant.grid in
    let read : slot_at now c.args.cell layer ≡ get_or old layer Bare =
    ap (λ (h : Grid). slot_at h c.args.cell layer) made
    ∙ ap (λ (s : List Slot). get_or s layer Bare)
    (get_or-set_same start.cells c.args.cell (take layer new ++ drop layer old) [] within)
    ∙ mixed-get new old layer Bare same (rw same low) in
    let after : slot_after write layer (slot_at now c.args.cell layer) ≡ get_or new layer Bare =
    ap (slot_after write layer) read ∙ sym is in
    let wrote = rw c.loop-layer.invariant.table at c.write_slot-any.ensures.grid in
    let told = rw c.loop-layer.invariant.table at c.write_slot-any.ensures.changed in
    record {
      grid = wrote ∙ one_more_slot start now c.args.cell layer (layer + 1) old new (slot_after write layer) within same
          low made is refl;
      changed =
          ap (λ (b : Bool). b || not (same_cell (drop (layer + 1) old) (drop (layer + 1) new))) told
          ∙ ap (λ (s : Slot). (c.loop-layer.any || not (same_slot (slot_at now c.args.cell layer) s)) || not
          (same_cell (drop (layer + 1) old) (drop (layer + 1) new))) after
          ∙ ap (λ (s : Slot). (c.loop-layer.any || not (same_slot s (get_or new layer Bare))) || not
          (same_cell (drop (layer + 1) old) (drop (layer + 1) new))) read
          ∙ changed_more c.loop-layer.any old new layer (layer + 1) same low refl
          ∙ c.loop-layer.invariant.changed;
      table = c.write_slot-any.ensures.table ∙ c.loop-layer.invariant.table;
      origin = c.write_slot-any.ensures.origin ∙ c.loop-layer.invariant.origin;
    }

pub returns-clause-grid : goal.returns-clause-grid
returns-clause-grid g c =
    let start : Grid = g.B.Board.grid c.args.board.now in
    let write : CellWrite = write_in_room (g.B.Board.table c.args.board.now) (write_shown c.args.write.now) in
    let old : List Slot = cell_at start c.args.cell in
    let within : c.args.cell < length start.cells = rw c.requires.shape.cells c.requires.cell in
    let slots : length old ≡ start.layers = c.requires.shape.slots c.args.cell _ within in
    let high : length old ≤ c.loop-layer.layer = rw slots (omega arith) in
    c.loop-layer.invariant.grid ∙ ap (with_cell_of start c.args.cell)
    (all_slots (cell_written write old) old c.loop-layer.layer (length-written_from write 0 old) high)

pub returns-clause-changed : goal.returns-clause-changed
returns-clause-changed g c =
    let start : Grid = g.B.Board.grid c.args.board.now in
    let write : CellWrite = write_in_room (g.B.Board.table c.args.board.now) (write_shown c.args.write.now) in
    let old : List Slot = cell_at start c.args.cell in
    let within : c.args.cell < length start.cells = rw c.requires.shape.cells c.requires.cell in
    let slots : length old ≡ start.layers = c.requires.shape.slots c.args.cell _ within in
    let high : length old ≤ c.loop-layer.layer = rw slots (omega arith) in
    sym (changed_all c.loop-layer.any old (cell_written write old) c.loop-layer.layer (length-written_from write 0 old)
    high) ∙ c.loop-layer.invariant.changed
