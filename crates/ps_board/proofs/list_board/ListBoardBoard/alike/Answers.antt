use Rattle.std.proofs.Common.{◌≡◌, ◌<◌, ◌∙◌, true, List, Bool, ap, refl, arith}
use Rattle.ps_model.specs.declared.limits.TheConstants.{SIDE_LIMIT}
use Rattle.ps_board.specs.ColumnSets.{with_column}
use Rattle.ps_board.proofs.OneColumn.{has_own, only_own}
use Rattle.ps_board.proofs.list_board.ListBoardBoard.alike.Goals as goal

pub returns-clause-own : goal.returns-clause-own
returns-clause-own c =
    has_own c.with.result c.args.column (c.with.ensures
    ∙ ap (λ (set : List Bool). with_column set c.args.column true) c.none.ensures)
    (omega (arith, c.requires.column, c.args.self.now.columns))

pub returns-clause-alike : goal.returns-clause-alike
returns-clause-alike c = λ x under has.
    let low : x < SIDE_LIMIT = omega (arith, under, c.args.self.now.columns) in
    let same : x ≡ c.args.column =
    only_own c.with.result c.args.column x (c.with.ensures
    ∙ ap (λ (set : List Bool). with_column set c.args.column true) c.none.ensures) low has in
    rw same refl
