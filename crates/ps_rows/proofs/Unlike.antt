-- Sets with the columns that aren't as one of them is in other sets.
use Rattle.std.proofs.Common.{◌≡◌, ◌∙◌, ℕ, ◌+◌, ◌*◌, ◌<◌, inl, inr, ◌&&◌, ◌||◌, Bool, true, false, not, List, sym, ap}
use Rattle.std.proofs.Common.{ap₂, arith}
use Rattle.std.proofs.lemmas.Bool.{cases_eq, or_parts, not-false}
use Rattle.std.proofs.Math.Bool.{and-false}
use Rattle.ps_model.specs.declared.limits.TheConstants.{SIDE_LIMIT}
use Rattle.ps_board.specs.ColumnSets.{column_at, columns_without, either_columns, no_columns}
use Rattle.ps_rows.specs.Planes.{row_of}
use Rattle.ps_rows.specs.Sameness.{HasUnlike, HasUnlikeOf}
use Rattle.ps_rows.proofs.Sets.{either_at, none_at, without_at}

-- no column of an empty set is unlike another
pub none_unlike : (all of : List Bool) (column : ℕ) → of ≡ no_columns → HasUnlike all of column no_columns
none_unlike all of column empty = (
  none_at column,
  λ x low on none. ap (λ (word : List Bool). column_at word x) empty ∙ none_at x
      ∙ sym (ap (λ (word : List Bool). column_at word column) empty ∙ none_at column),
)

-- the columns that a set hasn't, if it has that one
pub others_unlike : (all word : List Bool) (column : ℕ) → column < SIDE_LIMIT → column_at word column ≡ true →
    HasUnlike all word column (columns_without all word)
others_unlike all word column low has = (
  without_at all word column low ∙ ap (λ (b : Bool). column_at all column && not b) has
      ∙ and-false (column_at all column),
  λ x across on none.
      let told = sym (ap (λ (b : Bool). b && not (column_at word x)) on) ∙ sym (without_at all word x across) ∙ none in
      not-false (column_at word x) told ∙ sym has,
)

-- and those that it has, if it hasn't that one
pub own_unlike : (all word : List Bool) (column : ℕ) → column_at word column ≡ false → HasUnlike all word column word
own_unlike all word column hasnt = (hasnt, λ x low on none. none ∙ sym hasnt)

-- no plane is looked at, and one more
pub nothing_unlike : (height row column : ℕ) (words : List (List Bool)) (all : List Bool) →
    HasUnlikeOf height row 0 words all column no_columns
nothing_unlike height row column words all = (none_at column, λ plane x below low on none. absurd (omega arith))

pub one_more_unlike : (height row plane column : ℕ) (all unlike more : List Bool) (words : List (List Bool)) →
    column < SIDE_LIMIT → HasUnlikeOf height row plane words all column unlike →
    HasUnlike all (row_of words (plane * height + row)) column more →
    HasUnlikeOf height row (plane + 1) words all column (either_columns unlike more)
one_more_unlike height row plane column all unlike more words near before here = (
  either_at unlike more column near ∙ ap₂ (λ (a b : Bool). a || b) before.0 here.0,
  λ each x below low on none.
      let parts = or_parts (column_at unlike x) (column_at more x) (sym (either_at unlike more x low) ∙ none) in
      elim (cases_eq each plane) [
        | inl e ↦ rw e (here.1 x low on parts.1)
        | inr apart ↦ before.1 each x (omega arith) low on parts.0
      ],
)
