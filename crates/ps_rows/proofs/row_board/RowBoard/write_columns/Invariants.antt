use Rattle.std.proofs.Common.{◌≡◌, Some, true, false}
use Rattle.std.specs.Prelude.{nat_lt}
use Rattle.ps_program.specs.ProgramShown.{write_shown}
use Rattle.ps_match.specs.InRoom.{slot_after, write_in_room}
use Rattle.ps_rows.specs.Showing.{grid_shown}
use Rattle.ps_rows.specs.SlotsWritten.{AreSlotsLeft, AreSlotsWritten, in_columns}
use Rattle.ps_rows.proofs.row_board.RowBoard.write_columns.Given as goal

-- the layers passed by are written
abbrev pub invariant-loop-layer : goal.invariant-loop-layer
invariant-loop-layer g l =
    let b = l.fn.self in
    let start = grid_shown b.members.table.items b.width b.planes.height b.layers b.planes.words.items in
    let now = grid_shown l.self.members.table.items l.self.width l.self.planes.height l.self.layers
    l.self.planes.words.items in
    let after = slot_after (write_in_room (Some b.members.table.items) (write_shown l.write)) in
    let chosen = in_columns b.planes.height l.row l.columns in
    record {
      slots : AreSlotsWritten start now chosen (λ k. nat_lt k l.layer) after;
      quiet : l.any ≡ false → AreSlotsLeft start chosen (λ k. nat_lt k l.layer) after;
      left : AreSlotsLeft start chosen (λ k. true) after → l.any ≡ false;
      width : l.self.width ≡ b.width;
      height : l.self.planes.height ≡ b.planes.height;
      layers : l.self.layers ≡ b.layers;
      table : l.self.members.table.items ≡ b.members.table.items;
      origin : l.self.origin.value ≡ b.origin.value;
    }
