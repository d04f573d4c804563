-- The first way at which the parts of a row fit, and the next one behind a way, from the ways of the parts behind the
-- first one.
use Rattle.std.proofs.Common.{◌≡◌, ◌∙◌, ℕ, ◌+◌, Bool, true, false, Option, List, [], ◌∷◌, length, refl, sym, ap, ap₂}
use Rattle.std.proofs.Common.{arith}
use Rattle.std.proofs.lemmas.List.{nil_from_length}
use Rattle.ps_model.specs.board.Grid.{Grid}
use Rattle.ps_program.specs.declared.cells.CompiledCell.{CompiledCell}
use Rattle.ps_program.specs.declared.rows.Axis.{Axis}
use Rattle.ps_places.specs.Lines.{part_fits}
use Rattle.ps_places.specs.FittingWays.{way_fits}
use Rattle.ps_places.specs.RowPlaces.{part_sizes}
use Rattle.ps_places.specs.Ways.{from_first, positions_from, ways_behind, ways_from}
use Rattle.ps_places.proofs.NextWays.{IsMadeOf, first_way-found, first_way-no_position, first_way-none, next_way-none}
use Rattle.ps_places.proofs.NextWays.{next_way-others, next_way-unfit}

made : (g : Grid) (table : Option (List ℕ)) (axis : Axis) (line : ℕ) (part : List CompiledCell)
    (others : List (List CompiledCell)) →
    IsMadeOf (way_fits g table axis line (part ∷ others)) (part_fits g table axis line part)
    (way_fits g table axis line others)
made g table axis line part others = record { at = λ p way. refl }

-- the first way from a position on
pub level-found : (g : Grid) (table : Option (List ℕ)) (axis : Axis) (line : ℕ) (parts : List (List CompiledCell))
    (cells part : List CompiledCell) (others : List (List CompiledCell))
    (sets : List (List Bool)) (set : List Bool) (more : List (List Bool)) (from p q : ℕ) (way : List ℕ) →
    parts ≡ part ∷ others → sets ≡ set ∷ more → cells ≡ part → q ≡ p →
    from_first (part_fits g table axis line cells) (positions_from set from) ≡ p ∷ positions_from set (p + 1) →
    from_first (way_fits g table axis line others) (ways_from more (part_sizes others) (q + length cells))
    ≡ way ∷ ways_behind more (part_sizes others) way →
    from_first (way_fits g table axis line parts) (ways_from sets (part_sizes parts) from)
    ≡ (p ∷ way) ∷ ways_behind sets (part_sizes parts) (p ∷ way)
level-found g table axis line parts cells part others sets set more from p q way e f same at least found =
    rw (e, f) (first_way-found (way_fits g table axis line (part ∷ others)) (part_fits g table axis line part)
    (way_fits g table axis line others) set more (length part) (part_sizes others) from p way
    (made g table axis line part others)
    (ap (λ (x : List CompiledCell). from_first (part_fits g table axis line x) (positions_from set from)) (sym same)
    ∙ least)
    (ap₂ (λ (n : ℕ) (x : List CompiledCell). from_first (way_fits g table axis line others)
    (ways_from more (part_sizes others) (n + length x))) (sym at) (sym same) ∙ found))

pub level-none : (g : Grid) (table : Option (List ℕ)) (axis : Axis) (line : ℕ) (parts : List (List CompiledCell))
    (cells part : List CompiledCell) (others : List (List CompiledCell))
    (sets : List (List Bool)) (set : List Bool) (more : List (List Bool)) (from p q : ℕ) → parts ≡ part ∷ others →
    sets ≡ set ∷ more → cells ≡ part → q ≡ p →
    from_first (part_fits g table axis line cells) (positions_from set from) ≡ p ∷ positions_from set (p + 1) →
    from_first (way_fits g table axis line others) (ways_from more (part_sizes others) (q + length cells)) ≡ [] →
    from_first (way_fits g table axis line parts) (ways_from sets (part_sizes parts) from) ≡ []
level-none g table axis line parts cells part others sets set more from p q e f same at least none =
    rw (e, f) (first_way-none (way_fits g table axis line (part ∷ others)) (part_fits g table axis line part)
    (way_fits g table axis line others) set more (length part) (part_sizes others) from p
    (made g table axis line part others)
    (ap (λ (x : List CompiledCell). from_first (part_fits g table axis line x) (positions_from set from)) (sym same)
    ∙ least)
    (ap₂ (λ (n : ℕ) (x : List CompiledCell). from_first (way_fits g table axis line others)
    (ways_from more (part_sizes others) (n + length x))) (sym at) (sym same) ∙ none))

pub level-no_position : (g : Grid) (table : Option (List ℕ)) (axis : Axis) (line : ℕ)
    (parts : List (List CompiledCell)) (cells part : List CompiledCell) (others : List (List CompiledCell))
    (sets : List (List Bool)) (set : List Bool) (more : List (List Bool)) (from : ℕ) → parts ≡ part ∷ others →
    sets ≡ set ∷ more → cells ≡ part →
    from_first (part_fits g table axis line cells) (positions_from set from) ≡ [] →
    from_first (way_fits g table axis line parts) (ways_from sets (part_sizes parts) from) ≡ []
level-no_position g table axis line parts cells part others sets set more from e f same least =
    rw (e, f) (first_way-no_position (way_fits g table axis line (part ∷ others)) (part_fits g table axis line part)
    (way_fits g table axis line others) set more (length part) (part_sizes others) from
    (made g table axis line part others)
    (ap (λ (x : List CompiledCell). from_first (part_fits g table axis line x) (positions_from set from)) (sym same)
    ∙ least))

-- behind a way: the parts behind the first one go on, or else the first one does
pub level-others : (g : Grid) (table : Option (List ℕ)) (axis : Axis) (line : ℕ) (parts : List (List CompiledCell))
    (cells part : List CompiledCell) (others : List (List CompiledCell))
    (sets : List (List Bool)) (set : List Bool) (more : List (List Bool)) (old : List ℕ) (p : ℕ) (way next : List ℕ) →
    parts ≡ part ∷ others → sets ≡ set ∷ more → cells ≡ part → old ≡ p ∷ way →
    part_fits g table axis line cells p ≡ true → from_first (way_fits g table axis line others)
    (ways_behind more (part_sizes others) way) ≡ next ∷ ways_behind more (part_sizes others) next →
    from_first (way_fits g table axis line parts) (ways_behind sets (part_sizes parts) old)
    ≡ (p ∷ next) ∷ ways_behind sets (part_sizes parts) (p ∷ next)
level-others g table axis line parts cells part others sets set more old p way next e f same was fit found =
    rw (e, f, was) (next_way-others (way_fits g table axis line (part ∷ others)) (part_fits g table axis line part)
    (way_fits g table axis line others) set more (length part) (part_sizes others) p way next
    (made g table axis line part others) (ap (λ (x : List CompiledCell). part_fits g table axis line x p) (sym same)
    ∙ fit) found)

pub level-done : (g : Grid) (table : Option (List ℕ)) (axis : Axis) (line : ℕ) (parts : List (List CompiledCell))
    (part : List CompiledCell) (others : List (List CompiledCell))
    (sets : List (List Bool)) (set : List Bool) (more : List (List Bool)) (old : List ℕ) (p : ℕ) (way : List ℕ) →
    parts ≡ part ∷ others → sets ≡ set ∷ more → old ≡ p ∷ way →
    from_first (way_fits g table axis line others) (ways_behind more (part_sizes others) way) ≡ [] →
    from_first (way_fits g table axis line parts) (ways_behind sets (part_sizes parts) old)
    ≡ from_first (way_fits g table axis line parts) (ways_from sets (part_sizes parts) (p + 1))
level-done g table axis line parts part others sets set more old p way e f was none =
    rw (e, f, was) (next_way-none (way_fits g table axis line (part ∷ others)) (part_fits g table axis line part)
    (way_fits g table axis line others) set more (length part) (part_sizes others) p way
    (made g table axis line part others) none)

pub level-unfit : (g : Grid) (table : Option (List ℕ)) (axis : Axis) (line : ℕ) (parts : List (List CompiledCell))
    (cells part : List CompiledCell) (others : List (List CompiledCell))
    (sets : List (List Bool)) (set : List Bool) (more : List (List Bool)) (old : List ℕ) (p : ℕ) (way : List ℕ) →
    parts ≡ part ∷ others → sets ≡ set ∷ more → cells ≡ part → old ≡ p ∷ way →
    part_fits g table axis line cells p ≡ false →
    from_first (way_fits g table axis line parts) (ways_behind sets (part_sizes parts) old)
    ≡ from_first (way_fits g table axis line parts) (ways_from sets (part_sizes parts) (p + 1))
level-unfit g table axis line parts cells part others sets set more old p way e f same was out =
    rw (e, f, was) (next_way-unfit (way_fits g table axis line (part ∷ others)) (part_fits g table axis line part)
    (way_fits g table axis line others) set more (length part) (part_sizes others) p way
    (made g table axis line part others) (ap (λ (x : List CompiledCell). part_fits g table axis line x p) (sym same)
    ∙ out))

-- the last part alone is left
pub level-last : (g : Grid) (table : Option (List ℕ)) (axis : Axis) (line : ℕ) (parts : List (List CompiledCell))
    (part : List CompiledCell) (others : List (List CompiledCell))
    (sets : List (List Bool)) (set : List Bool) (more : List (List Bool)) (old : List ℕ) (p : ℕ) (way : List ℕ) →
    parts ≡ part ∷ others → sets ≡ set ∷ more → old ≡ p ∷ way →
    length sets ≡ length parts → length others ≡ 0 →
    from_first (way_fits g table axis line parts) (ways_behind sets (part_sizes parts) old)
    ≡ from_first (way_fits g table axis line parts) (ways_from sets (part_sizes parts) (p + 1))
level-last g table axis line parts part others sets set more old p way e f was long alone =
    let short : length more ≡ 0 = omega (arith, ap length e, ap length f, long, alone) in
    let empty : more ≡ [] = nil_from_length more short in
    level-done g table axis line parts part others sets set more old p way e f was (rw empty refl)
