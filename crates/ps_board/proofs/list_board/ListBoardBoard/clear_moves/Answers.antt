use Rattle.std.proofs.Common.{◌≡◌, ◌*◌, ◌++◌, ◌∙◌, arith, List, length, map, take, drop, ap}
use Rattle.std.specs.Simd.{first_chunks}
use Rattle.std.proofs.lemmas.List.Edits.{map_over_more}
use Rattle.std.proofs.lemmas.Grind.{common_steps}
use Rattle.ps_model.specs.declared.pieces.Slot.{Slot}
use Rattle.ps_model.specs.board.Grid.{Grid, slot_at_rest}
use Rattle.ps_board.proofs.Cells.{first_chunks-map}
use Rattle.ps_board.proofs.list_board.ListBoardBoard.clear_moves.Goals as goal

pub loop-slot-preserved : goal.loop-slot-preserved
loop-slot-preserved c = rw c.rested.ensures (map_over_more slot_at_rest _ _ _ _ c.loop-slot-test.true
    c.loop-slot.invariant (grind (arith, common_steps)))

pub returns-clause-grid : goal.returns-clause-grid
returns-clause-grid c =
    let board = c.args.self.now in
    let rested : List Slot = c.loop-slot.slot-items in
    let all : rested ≡ map slot_at_rest board.slots.items = grind (arith, common_steps) in
    let whole : take board.slots.len (rested ++ drop (length rested) board.slots.items) ≡ map slot_at_rest
    board.slots.items = grind (arith, common_steps) in
    ap (λ (cells : List (List Slot)). let g : Grid =
    record { width = board.width; height = board.height; layers = board.layers; cells = cells } in g)
    (ap (λ (slots : List Slot). first_chunks board.layers (board.width * board.height) slots) whole
    ∙ first_chunks-map slot_at_rest board.layers (board.width * board.height) board.slots.items)
