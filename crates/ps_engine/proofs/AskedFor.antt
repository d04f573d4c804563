-- Rules that ask for a motion which nothing on the board has, one behind the other.
use Rattle.std.proofs.Common.{◌≡◌, ◌∙◌, ℕ, ◌+◌, ◌<◌, ◌&&◌, inl, inr, Bool, true, false, not, Option, List, [], ◌∷◌}
use Rattle.std.proofs.Common.{length, get_or, refl, sym, subst, ap, arith}
use Rattle.std.proofs.lemmas.Bool.{and_parts, cases_lt, not-true}
use Rattle.std.proofs.lemmas.List.{get_or_default}
use Rattle.ps_model.specs.declared.limits.TheConstants.{SIDE_LIMIT}
use Rattle.ps_model.specs.board.Grid.{Grid, IsGrid}
use Rattle.ps_model.specs.board.Attempts.{combinations_on}
use Rattle.ps_board.specs.ColumnSets.{column_at, columns_without, set_columns}
use Rattle.ps_board.proofs.ColumnLaws.{column_at-where, first_in}
use Rattle.ps_match.specs.Nowhere.{HasMotionsIn, MovesNowhere}
use Rattle.ps_program.specs.Axes.{direction_of}
use Rattle.ps_program.specs.declared.rules.CompiledRule.{CompiledRule}
use Rattle.ps_program.proofs.MotionSets.{Asks, one_asks}
use Rattle.ps_engine.specs.RulesInRoom.{rule_meaning}
use Rattle.ps_engine.specs.Lacking.{AreIdleBetween}
use Rattle.ps_engine.proofs.Absent.{rule_still}

-- a rule that asks for a motion outside of a set ----------------------------------------------------------------------

-- a place of one set that isn't in another
record IsApart (asked motions : List Bool) (place : ℕ) : Type 0 where
  low : place < SIDE_LIMIT
  on : column_at asked place ≡ true
  off : column_at motions place ≡ false

first_apart : (asked motions others : List Bool) (places : List ℕ) → others ≡ columns_without asked motions →
    set_columns others ≡ places → 0 < length places → (place : ℕ) × IsApart asked motions place
first_apart asked motions others [] are is some = absurd (omega (arith, some))
first_apart asked motions others (place ∷ places) are is some =
    let first = first_in others place places is in
    let low : place < SIDE_LIMIT = first.1 in
    let here : column_at others place ≡ (column_at asked place && not (column_at motions place)) =
    ap (λ (set : List Bool). column_at set place) are
    ∙ column_at-where (λ x. column_at asked x && not (column_at motions x)) place low in
    let parts = and_parts (column_at asked place) (not (column_at motions place)) (sym here ∙ first.0) in
    (place, record { low = low; on = parts.0; off = not-true (column_at motions place) parts.1 })

module _ (g : Grid) (table : Option (List ℕ)) (rule : CompiledRule) (motions : List Bool) (grid : IsGrid g) (has :
    HasMotionsIn g motions) where
  asks_apart : (place : ℕ) → column_at motions place ≡ false → Asks rule.moving place →
      combinations_on g (rule_meaning table rule) ≡ []
  asks_apart place off (test, ((at, low, e), is)) =
      rule_still g table (direction_of rule.axis) rule.rows rule.moving at test grid rule.moves low
      (subst (MovesNowhere g) (sym e) (has test place is off))

  idle_by : (place : ℕ) × IsApart rule.asked motions place → combinations_on g (rule_meaning table rule) ≡ []
  idle_by (place, apart) =
      asks_apart place apart.off (one_asks rule.moving rule.asked place rule.places apart.low apart.on)

  pub idle_apart : (others : List Bool) → others ≡ columns_without rule.asked motions →
      0 < length (set_columns others) → combinations_on g (rule_meaning table rule) ≡ []
  idle_apart others are some =
      idle_by (first_apart rule.asked motions others (set_columns others) are refl some)

-- rules one after another ---------------------------------------------------------------------------------------------

pub idle_further : (g : Grid) (table : Option (List ℕ)) (rules : List CompiledRule) (first n last : ℕ) →
    AreIdleBetween g table rules first n → AreIdleBetween g table rules n last →
    AreIdleBetween g table rules first last
idle_further g table rules first n last before behind = λ k d from to. elim (cases_lt k n) [
  | inl low ↦ before k d from low
  | inr high ↦ behind k d high to
]

pub one_idle : (g : Grid) (table : Option (List ℕ)) (rules : List CompiledRule) (n : ℕ) (rule : CompiledRule) →
    n < length rules → rule ≡ get_or rules n rule → combinations_on g (rule_meaning table rule) ≡ [] →
    AreIdleBetween g table rules n (n + 1)
one_idle g table rules n rule low is none = λ k d from to.
    let same : k ≡ n = omega (arith, from, to) in
    let here : rule ≡ get_or rules k d =
    is ∙ get_or_default rules n rule d low ∙ ap (λ (j : ℕ). get_or rules j d) (sym same) in
    subst (λ (r : CompiledRule). combinations_on g (rule_meaning table r) ≡ []) here none
