use Rattle.std.proofs.Common.{◌∙◌, Some, sym}
use Rattle.std.specs.Prelude.{nat_eq}
use Rattle.ps_program.specs.ProgramShown.{write_shown}
use Rattle.ps_rows.specs.Showing.{grid_shown}
use Rattle.ps_rows.specs.SlotsWritten.{in_columns}
use Rattle.ps_rows.proofs.RowsWritten.{left_untouched, one_untouched, slots_untouched}
use Rattle.ps_rows.proofs.row_board.RowBoard.write_if.Goals as goal

pub returns-clause-slots : goal.returns-clause-slots
returns-clause-slots g c =
    let b = c.args.self.now in
    slots_untouched (Some b.members.table.items) (write_shown c.args.write.now)
    (grid_shown b.members.table.items b.width b.planes.height b.layers b.planes.words.items)
    (in_columns b.planes.height c.args.row c.args.columns) (λ l. nat_eq l c.args.layer)
    (λ l below.
    one_untouched (write_shown c.args.write.now) c.args.layer (sym c.touches.ensures ∙ c.if-touches.false) l)

pub returns-clause-quiet : goal.returns-clause-quiet
returns-clause-quiet g c = λ none.
    let b = c.args.self.now in
    left_untouched (Some b.members.table.items) (write_shown c.args.write.now)
    (grid_shown b.members.table.items b.width b.planes.height b.layers b.planes.words.items)
    (in_columns b.planes.height c.args.row c.args.columns) (λ l. nat_eq l c.args.layer)
    (λ l below.
    one_untouched (write_shown c.args.write.now) c.args.layer (sym c.touches.ensures ∙ c.if-touches.false) l)
