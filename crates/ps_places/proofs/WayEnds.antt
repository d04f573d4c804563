-- Where the parts of a row, or the sets of their positions, are at their end; and the first part of a row.
use Rattle.std.proofs.Common.{◌≡◌, ◌∙◌, ℕ, ◌<◌, Bool, Option, List, [], ◌∷◌, suc, length, sym, ap, refl}
use Rattle.std.proofs.Common.{subst, arith}
use Rattle.std.specs.Prelude.{All}
use Rattle.ps_model.specs.board.Grid.{Grid}
use Rattle.ps_laws.specs.WholeRows.{HasCells}
use Rattle.ps_program.specs.declared.cells.CompiledCell.{CompiledCell}
use Rattle.ps_program.specs.declared.rows.Axis.{Axis}
use Rattle.ps_places.specs.FittingWays.{way_fits}
use Rattle.ps_places.specs.RowPlaces.{part_sizes}
use Rattle.ps_places.specs.Spaced.{IsSpaced}
use Rattle.ps_places.specs.Ways.{from_first, ways_behind, ways_from}

-- no part is left -----------------------------------------------------------------------------------------------------

pub no_parts-found : (g : Grid) (table : Option (List ℕ)) (axis : Axis) (line : ℕ) (parts : List (List CompiledCell))
    (sets : List (List Bool)) (from : ℕ) (way : List ℕ) → length parts ≡ 0 → length sets ≡ length parts →
    length way ≡ length parts →
    from_first (way_fits g table axis line parts) (ways_from sets (part_sizes parts) from)
    ≡ way ∷ ways_behind sets (part_sizes parts) way
no_parts-found g table axis line [] [] from [] none same long = refl
no_parts-found g table axis line [] [] from (p ∷ way) none same long = absurd (omega arith)
no_parts-found g table axis line [] (set ∷ sets) from way none same long = absurd (omega arith)
no_parts-found g table axis line (part ∷ parts) sets from way none same long = absurd (omega arith)

pub no_parts-spaced : (parts : List (List CompiledCell)) (from : ℕ) (way : List ℕ) → length parts ≡ 0 →
    IsSpaced (part_sizes parts) from way
no_parts-spaced [] from way none = tt
no_parts-spaced (part ∷ parts) from way none = absurd (omega arith)

pub no_parts-behind : (g : Grid) (table : Option (List ℕ)) (axis : Axis) (line : ℕ) (parts : List (List CompiledCell))
    (sets : List (List Bool)) (way : List ℕ) → length parts ≡ 0 → length sets ≡ length parts →
    from_first (way_fits g table axis line parts) (ways_behind sets (part_sizes parts) way) ≡ []
no_parts-behind g table axis line [] [] way none same = refl
no_parts-behind g table axis line [] (set ∷ sets) way none same = absurd (omega arith)
no_parts-behind g table axis line (part ∷ parts) sets way none same = absurd (omega arith)

-- a part that is left -------------------------------------------------------------------------------------------------

-- has a set
pub some_sets : {X Y : Type 0} (xs : List X) (x : X) (more : List X) (ys : List Y) → xs ≡ x ∷ more →
    length ys ≡ length xs → length ys ≡ 0 → ⊥
some_sets xs x more ys e same none = omega (arith, ap length e)

pub one_more : {X Y : Type 0} (xs : List X) (x : X) (more : List X) (ys : List Y) → xs ≡ x ∷ more →
    length ys ≡ length more → suc (length ys) ≡ length xs
one_more xs x more ys e long = ap suc long ∙ sym (ap length e)

pub one_less : {X Y : Type 0} (xs : List X) (x : X) (more : List X) (ys : List Y) (y : Y) (rest : List Y) →
    xs ≡ x ∷ more → ys ≡ y ∷ rest → length ys ≡ length xs → length rest ≡ length more
one_less xs x more ys y rest e d same = omega (arith, ap length e, ap length d)

-- so that fewer are left behind it
pub falls : {X : Type 0} (xs : List X) (x : X) (more : List X) (t : ℕ) → xs ≡ x ∷ more → length xs ≡ t →
    length more < t
falls xs x more t e is = omega (arith, ap length e)

-- and cells
pub first_whole : (parts : List (List CompiledCell)) (part : List CompiledCell) (others : List (List CompiledCell))
    (cells : List CompiledCell) → parts ≡ part ∷ others → cells ≡ part → All HasCells parts → HasCells cells
first_whole parts part others cells e shown whole =
    let all : All HasCells (part ∷ others) = subst (All HasCells) e whole in
    subst HasCells (sym shown) (all 0 [] (omega arith))
