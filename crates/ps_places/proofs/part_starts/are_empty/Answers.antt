use Rattle.std.proofs.Common.{◌≡◌, ◌∙◌, ◌<◌, ℕ, inl, inr, Bool, List, [], length, refl, sym, ap, arith}
use Rattle.std.proofs.lemmas.Bool.{cases_lt}
use Rattle.std.proofs.lemmas.List.{get_or_read_under}
use Rattle.ps_board.specs.ColumnSets.{column_at}
use Rattle.ps_board.proofs.ColumnLaws.{none_in}
use Rattle.ps_places.specs.PartStarts.{columns_on}
use Rattle.ps_board.proofs.EmptySets.{empty_of, in_neither}
use Rattle.ps_places.proofs.part_starts.are_empty.Goals as goal

pub loop-row-preserved : goal.loop-row-preserved
loop-row-preserved g c = λ row x from less low none.
    let starts : List (List Bool) = c.args.starts.now in
    let at : ℕ = c.loop-row.row in
    let own : at < length starts = omega (arith, c.loop-row-test.true, c.requires) in
    let is : c.index-starts-row.result ≡ columns_on starts at =
    get_or_read_under starts at (length starts) c.index-starts-row.result [] c.index-starts-row.is own refl in
    let parts = in_neither c.loop-row.joined c.index-starts-row.result c.either-joined.result x
    c.either-joined.ensures low none in
    elim (cases_lt row at) [
      | inl before ↦ c.loop-row.invariant row x from before low parts.0
      | inr here ↦
          let same : row ≡ at = omega (arith, here, less) in
          ap (λ (r : ℕ). column_at (columns_on starts r) x) same
          ∙ ap (λ (set : List Bool). column_at set x) (sym is) ∙ parts.1
    ]

pub returns : goal.returns
returns g c = λ empty row from less. empty_of (columns_on c.args.starts.now row) (λ x low.
    c.loop-row.invariant row x from (omega (arith, less, c.loop-row-test.false)) low
    (none_in c.loop-row.joined x (c.is_empty.ensures.none empty) low))
