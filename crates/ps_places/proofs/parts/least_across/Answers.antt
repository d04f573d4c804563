use Rattle.std.proofs.Common.{◌≡◌, ◌∙◌, ℕ, Bool, refl, sym, ap}
use Rattle.std.specs.Prelude.{filter}
use Rattle.ps_program.specs.declared.rows.Axis.TheVariants.{Right}
use Rattle.ps_board.specs.ColumnSets.{set_columns}
use Rattle.ps_places.specs.Lines.{part_fits}
use Rattle.ps_places.proofs.FirstOf.{first-none}
use Rattle.ps_places.proofs.Positions.{both-kept, first-of-kind}
use Rattle.ps_places.proofs.parts.least_across.Goals as goal

pub returns-in_err-position-clause-none : goal.returns-in_err-position-clause-none
returns-in_err-position-clause-none g c = λ none.
    let fits : ℕ → Bool = part_fits (g.B.Board.grid c.args.board.now) (g.B.Board.table c.args.board.now) Right
    c.args.line c.args.part.now in
    let kept : set_columns c.both-fitting.result ≡ filter fits (set_columns c.args.set) =
    ap set_columns c.both-fitting.ensures
    ∙ both-kept c.args.set c.columns_across.result fits (λ x low. c.columns_across.ensures.at x low
    ∙ ap (λ (row : ℕ). part_fits (g.B.Board.grid c.args.board.now) (g.B.Board.table c.args.board.now) Right row
    c.args.part.now x) c.from.ensures) in
    first-none fits (set_columns c.args.set) (sym kept ∙ c.in_err-position.ensures.none refl)

pub returns-clause-some : goal.returns-clause-some
returns-clause-some g c =
    let fits : ℕ → Bool = part_fits (g.B.Board.grid c.args.board.now) (g.B.Board.table c.args.board.now) Right
    c.args.line c.args.part.now in
    let kept : set_columns c.both-fitting.result ≡ filter fits (set_columns c.args.set) =
    ap set_columns c.both-fitting.ensures
    ∙ both-kept c.args.set c.columns_across.result fits (λ x low. c.columns_across.ensures.at x low
    ∙ ap (λ (row : ℕ). part_fits (g.B.Board.grid c.args.board.now) (g.B.Board.table c.args.board.now) Right row
    c.args.part.now x) c.from.ensures) in
    first-of-kind c.args.set fits c.in_ok-position.position (set_columns c.take_first.new.self) (sym kept
    ∙ c.in_ok-position.ensures.some)
