-- The place of a way: it fits where each part does, and is rewritten part by part.
use Rattle.std.proofs.Common.{◌≡◌, ◌∙◌, ℕ, ◌+◌, ◌<◌, ◌*◌, ◌≤◌, ◌&&◌, Bool, true, Option, List, [], ◌∷◌, ◌++◌, length}
use Rattle.std.proofs.Common.{map, drop, get_or, refl, sym, ap, ap₂, arith}
use Rattle.std.specs.Prelude.{All, slice_get}
use Rattle.std.proofs.lemmas.List.{drop_all, drop_more, length-map}
use Rattle.std.proofs.lemmas.List.FromFn.{length-map-range_with_len}
use Rattle.ps_model.specs.board.Grid.{Grid}
use Rattle.ps_model.specs.board.Attempts.{Rewritten, rewritten_along, rewritten_cell}
use Rattle.ps_model.specs.meaning.RuleMeanings.{CellMeaning}
use Rattle.ps_program.specs.declared.cells.CompiledCell.{CompiledCell}
use Rattle.ps_program.specs.declared.rows.Axis.{Axis}
use Rattle.ps_places.specs.Lines.{cell_meaning, cell_on, line_cells, part_fits, part_meaning, step_along}
use Rattle.ps_places.specs.FittingWays.{way_fits}
use Rattle.ps_places.specs.RowPlaces.{cells_meaning, part_sizes, place_fits, way_cells}
use Rattle.ps_places.specs.Ways.{from_first}
use Rattle.ps_places.proofs.FirstOf.{first-map}
use Rattle.ps_places.proofs.LineWays.{fits_along-append}

-- lists of as many cells and meanings behind others
rewritten-append : (r : Rewritten) (ms ns : List CellMeaning) (cs ds : List ℕ) → length ms ≡ length cs →
    rewritten_along r (ms ++ ns) (cs ++ ds) ≡ rewritten_along (rewritten_along r ms cs) ns ds
rewritten-append r [] ns [] ds e = refl
rewritten-append r [] ns (c ∷ cs) ds e = absurd (omega (arith, e))
rewritten-append r (m ∷ ms) ns [] ds e = absurd (omega (arith, e))
rewritten-append r (m ∷ ms) ns (c ∷ cs) ds e = rewritten-append (rewritten_cell r m c (slice_get (r.grid).cells c)) ms
    ns cs ds (omega (arith, e))

-- a part has as many cells and meanings
as_many : (table : Option (List ℕ)) (axis : Axis) (height line position : ℕ) (part : List CompiledCell) →
    length (part_meaning table part) ≡ length (line_cells axis height line position (length part))
as_many table axis height line position part =
    length-map part (cell_meaning table)
    ∙ sym (length-map-range_with_len (λ k. cell_on axis height line position + k * step_along axis height) 0
    (length part))

-- a way's place fits where the way does
pub place-fits-way : (g : Grid) (table : Option (List ℕ)) (axis : Axis) (line : ℕ) (parts : List (List CompiledCell))
    (way : List ℕ) → length way ≡ length parts →
    place_fits g table parts (way_cells axis g.height line (part_sizes parts) way)
    ≡ way_fits g table axis line parts way
place-fits-way g table axis line [] [] e = refl
place-fits-way g table axis line [] (p ∷ way) e = absurd (omega (arith, e))
place-fits-way g table axis line (part ∷ parts) [] e = absurd (omega (arith, e))
place-fits-way g table axis line (part ∷ parts) (p ∷ way) e =
    fits_along-append g (part_meaning table part) (cells_meaning table parts)
    (line_cells axis g.height line p (length part))
    (way_cells axis g.height line (part_sizes parts) way)
    (as_many table axis g.height line p part)
    ∙ ap (λ (b : Bool). part_fits g table axis line part p && b)
    (place-fits-way g table axis line parts way (omega (arith, e)))

pub first-of-places : (g : Grid) (table : Option (List ℕ)) (axis : Axis) (line : ℕ) (parts : List (List CompiledCell))
    (ways : List (List ℕ)) → All (λ way. length way ≡ length parts) ways →
    from_first (place_fits g table parts) (map (way_cells axis g.height line (part_sizes parts)) ways)
    ≡ map (way_cells axis g.height line (part_sizes parts)) (from_first (way_fits g table axis line parts) ways)
first-of-places g table axis line parts ways long =
    first-map (way_cells axis g.height line (part_sizes parts)) (place_fits g table parts)
    (way_fits g table axis line parts) ways
    (λ k d low. place-fits-way g table axis line parts (get_or ways k d) (long k d low))

-- the next part of a way
pub way-fits-next : (g : Grid) (table : Option (List ℕ)) (axis : Axis) (line : ℕ) (parts : List (List CompiledCell))
    (way : List ℕ) (i : ℕ) (part : List CompiledCell) (d : ℕ) (fit : Bool) →
    i < length parts → i < length way → part ≡ get_or parts i part →
    part_fits g table axis line part (get_or way i d) ≡ fit →
    way_fits g table axis line (drop i parts) (drop i way)
    ≡ (fit && way_fits g table axis line (drop (i + 1) parts) (drop (i + 1) way))
way-fits-next g table axis line parts way i part d fit low short e f =
    ap₂ (λ (ps : List (List CompiledCell)) (w : List ℕ). way_fits g table axis line ps w) (drop_more parts i part low)
    (drop_more way i d short)
    ∙ ap (λ (p : List CompiledCell). part_fits g table axis line p (get_or way i d) && way_fits g table axis line
    (drop (i + 1) parts) (drop (i + 1) way)) (sym e)
    ∙ ap (λ (b : Bool). b && way_fits g table axis line (drop (i + 1) parts) (drop (i + 1) way)) f

pub way-fits-end : (g : Grid) (table : Option (List ℕ)) (axis : Axis) (line : ℕ) (parts : List (List CompiledCell))
    (way : List ℕ) (i : ℕ) → length parts ≤ i → length way ≤ i →
    way_fits g table axis line (drop i parts) (drop i way) ≡ true
way-fits-end g table axis line parts way i few short = rw (drop_all i parts few, drop_all i way short) refl

-- what is left of a row from a part on, rewritten
abbrev pub row_rewritten_from : Rewritten → Option (List ℕ) → Axis → ℕ → ℕ → List (List CompiledCell) → List ℕ → ℕ →
    Rewritten
row_rewritten_from r table axis height line parts way i =
    rewritten_along r (cells_meaning table (drop i parts)) (way_cells axis height line (part_sizes (drop i parts))
    (drop i way))

pub row-rewritten-next : (r : Rewritten) (table : Option (List ℕ)) (axis : Axis) (height line : ℕ)
    (parts : List (List CompiledCell)) (way : List ℕ) (i : ℕ) (part : List CompiledCell) (d : ℕ) →
    i < length parts → i < length way → part ≡ get_or parts i part →
    row_rewritten_from r table axis height line parts way i
    ≡ row_rewritten_from (rewritten_along r (part_meaning table part)
    (line_cells axis height line (get_or way i d) (length part))) table axis height line parts way (i + 1)
row-rewritten-next r table axis height line parts way i part d low short e =
    ap₂ (λ (ps : List (List CompiledCell)) (w : List ℕ). rewritten_along r (cells_meaning table ps)
    (way_cells axis height line (part_sizes ps) w))
    (drop_more parts i part low ∙ ap (λ (p : List CompiledCell). p ∷ drop (i + 1) parts) (sym e))
    (drop_more way i d short)
    ∙ rewritten-append r (part_meaning table part) (cells_meaning table (drop (i + 1) parts))
    (line_cells axis height line (get_or way i d) (length part))
    (way_cells axis height line (part_sizes (drop (i + 1) parts)) (drop (i + 1) way))
    (as_many table axis height line (get_or way i d) part)

pub row-rewritten-end : (r : Rewritten) (table : Option (List ℕ)) (axis : Axis) (height line : ℕ)
    (parts : List (List CompiledCell)) (way : List ℕ) (i : ℕ) → length parts ≤ i →
    row_rewritten_from r table axis height line parts way i ≡ r
row-rewritten-end r table axis height line parts way i few = rw (drop_all i parts few) refl
