-- Positions of the parts of a row, found one part after the other.
use Rattle.std.proofs.Common.{◌≡◌, ◌≢◌, ◌∙◌, ℕ, ◌+◌, ◌<◌, ◌≤◌, ◌⊎◌, inl, inr, Bool, true, false}
use Rattle.std.proofs.Common.{Option, List, [], length, refl, sym, ap, arith}
use Rattle.std.specs.Prelude.{nat_lt}
use Rattle.std.proofs.lemmas.Bool.{cases_eq}
use Rattle.std.proofs.lemmas.Bool.Decides.{nat_tests}
use Rattle.ps_model.specs.declared.limits.TheConstants.{SIDE_LIMIT}
use Rattle.ps_model.specs.board.Grid.{Grid, IsGrid}
use Rattle.ps_program.specs.declared.cells.CompiledCell.{CompiledCell}
use Rattle.ps_program.specs.declared.rows.Axis.{Axis}
use Rattle.ps_program.specs.declared.rows.Axis.TheVariants.{Down, Right}
use Rattle.ps_board.specs.ColumnSets.{column_at, columns_below, set_columns}
use Rattle.ps_board.proofs.ColumnLaws.{column_at-all, none_in}
use Rattle.ps_places.specs.FoundStarts.{AreLinesFound, BeginInSets, HasNoWay, IsLineFound, IsPartFound}
use Rattle.ps_places.specs.FoundStarts.{begins_on, part_of, set_of}
use Rattle.ps_places.specs.Lines.{line_count}
use Rattle.ps_places.specs.Starts.{AreWhere}

below_width : (width : ℕ) (lines : List Bool) (x : ℕ) → width ≤ SIDE_LIMIT → lines ≡ columns_below width →
    column_at lines x ≡ nat_lt x width
below_width width lines x few e =
    ap (λ (cs : List Bool). column_at cs x) e ∙ column_at-all (λ y. nat_lt y width) x
    (λ far. let out : nat_lt x width ≡ false = grind (arith, nat_tests, far, few) in out)

pub few_lines : (g : Grid) (axis : Axis) → IsGrid g → line_count axis g ≤ SIDE_LIMIT
few_lines g Down grid = grid.columns
few_lines g Right grid = grid.rows

pub lines-init : (g : Grid) (table : Option (List ℕ)) (axis : Axis) (parts : List (List CompiledCell))
    (starts : List (List Bool))
    (lines : List Bool) → IsGrid g → lines ≡ columns_below (line_count axis g) →
    AreLinesFound g table axis parts starts lines 0
lines-init g table axis parts starts lines grid e =
    record {
      each = λ x low.
          record {
            found = λ is. record { at = λ number few. absurd (omega arith) };
            none = λ out.
                let across : nat_lt x (line_count axis g) ≡ true = grind (arith, nat_tests, low) in
                let here : column_at lines x ≡ nat_lt x (line_count axis g) =
                below_width (line_count axis g) lines x (few_lines g axis grid) e in
                let clash : true ≡ false = sym across ∙ sym here ∙ out in
                absurd (cc);
          };
      below = λ x is.
          let across : nat_lt x (line_count axis g) ≡ true =
          sym (below_width (line_count axis g) lines x (few_lines g axis grid) e) ∙ is in
          grind (arith, nat_tests, across);
    }

-- nothing is left to be found
pub lines-none : (g : Grid) (table : Option (List ℕ)) (axis : Axis) (parts : List (List CompiledCell))
    (starts : List (List Bool))
    (lines : List Bool) (number : ℕ) → IsGrid g → set_columns lines ≡ [] →
    AreLinesFound g table axis parts starts lines number → AreLinesFound g table axis parts starts lines (length parts)
lines-none g table axis parts starts lines number grid none are =
    record {
      each = λ x low.
          record {
            found = λ is.
                let near : x < SIDE_LIMIT = omega (arith, low, few_lines g axis grid) in
                let clash : false ≡ true = sym (none_in lines x none near)
                ∙ is in absurd (cc);
            none = (are.each x low).none;
          };
      below = are.below;
    }

begin_by : (g : Grid) (table : Option (List ℕ)) (axis : Axis) (parts : List (List CompiledCell)) (number x : ℕ)
    (part : List CompiledCell) (old new : List (List Bool)) (lines found : List Bool) → number < length parts →
    part ≡ part_of parts number → column_at found x ≡ true →
    BeginInSets g table axis parts x (set_of old (length parts) x) number →
    IsPartFound g table axis part lines (length parts) number old new found → (n : ℕ) → n < number + 1 →
    (n ≡ number) ⊎ (n ≢ number) →
    AreWhere (begins_on g table axis x (part_of parts n)) (set_of new (length parts) x n)
begin_by g table axis parts number x part old new lines found low e is begun one n few (inl same) =
    rw (same, ← e) (one.begins x is)
begin_by g table axis parts number x part old new lines found low e is begun one n few (inr other) =
    rw (one.others x n (omega arith) other) (begun.at n (omega arith))

no_way_by : (g : Grid) (table : Option (List ℕ)) (axis : Axis) (parts : List (List CompiledCell)) (number x : ℕ)
    (part : List CompiledCell) (old new : List (List Bool)) (lines found : List Bool) (b : Bool) →
    column_at lines x ≡ b → number < length parts → part ≡ part_of parts number → column_at found x ≡ false →
    IsLineFound g table axis parts old lines number x →
    IsPartFound g table axis part lines (length parts) number old new found → HasNoWay g table axis parts x
no_way_by g table axis parts number x part old new lines found true t low e out line one =
    record { number = number; within = low; nowhere = rw (← e) (one.none x t out) }
no_way_by g table axis parts number x part old new lines found false t low e out line one = line.none t

pub lines-more : (g : Grid) (table : Option (List ℕ)) (axis : Axis) (parts : List (List CompiledCell)) (number : ℕ)
    (part : List CompiledCell) (old new : List (List Bool)) (lines found : List Bool) → number < length parts →
    part ≡ part_of parts number → AreLinesFound g table axis parts old lines number →
    IsPartFound g table axis part lines (length parts) number old new found →
    AreLinesFound g table axis parts new found (number + 1)
lines-more g table axis parts number part old new lines found low e are one =
    record {
      each = λ x across.
          record {
            found = λ is.
                let begun : BeginInSets g table axis parts x (set_of old (length parts) x) number =
                (are.each x across).found (one.inside x is) in
                record {
                  at = λ n few. begin_by g table axis parts number x part old new lines found low e is begun one n few
                      (cases_eq n number);
                };
            none = λ out.
                no_way_by g table axis parts number x part old new lines found (column_at lines x) refl low e out
                (are.each x across) one;
          };
      below = λ x is. are.below x (one.inside x is);
    }

-- lines on which one of the parts begins nowhere are left out, whichever part that is
cut_by : (g : Grid) (table : Option (List ℕ)) (axis : Axis) (parts : List (List CompiledCell)) (number x : ℕ)
    (part : List CompiledCell) (old new : List (List Bool)) (lines found : List Bool) (b : Bool) →
    column_at lines x ≡ b → number < length parts → part ≡ part_of parts number → column_at found x ≡ false →
    IsLineFound g table axis parts old lines 0 x →
    IsPartFound g table axis part lines (length parts) number old new found → HasNoWay g table axis parts x
cut_by g table axis parts number x part old new lines found true t low e out line one =
    record { number = number; within = low; nowhere = rw (← e) (one.none x t out) }
cut_by g table axis parts number x part old new lines found false t low e out line one = line.none t

pub lines-cut : (g : Grid) (table : Option (List ℕ)) (axis : Axis) (parts : List (List CompiledCell)) (number : ℕ)
    (part : List CompiledCell) (old new : List (List Bool)) (lines found : List Bool) → number < length parts →
    part ≡ part_of parts number → AreLinesFound g table axis parts old lines 0 →
    IsPartFound g table axis part lines (length parts) number old new found →
    AreLinesFound g table axis parts new found 0
lines-cut g table axis parts number part old new lines found low e are one =
    record {
      each = λ x across.
          record {
            found = λ is. record { at = λ n few. absurd (omega arith) };
            none = λ out.
                cut_by g table axis parts number x part old new lines found (column_at lines x) refl low e out
                (are.each x across) one;
          };
      below = λ x is. are.below x (one.inside x is);
    }
