-- Attempts of rules turned round. The cells of a place are different cells, so they may be rewritten in either order.
use Rattle.std.proofs.Common.{◌≡◌, ℕ, suc, ◌<◌, ◌≤◌, Bool, true, false, ◌||◌, not, Option, Some, None, List, [], ◌∷◌}
use Rattle.std.proofs.Common.{◌++◌, length, map, fold, reverse, slice_get, refl, sym, ◌∙◌, ap, ap₂, arith}
use Rattle.std.specs.Prelude.{◌≢◌, All}
use Rattle.std.specs.List.{flat_map}
use Rattle.std.proofs.lemmas.List.{map-id, reverse-append, length-reverse, set_comm}
use Rattle.std.proofs.lemmas.List.Elements.{All-nil, All-cons, All-head, All-tail, All-map}
use Rattle.std.proofs.lemmas.List.Folds.{flat_map-map}
use Rattle.std.proofs.lemmas.Simd.{map-map}
use mathlib.Core.Path.{subst}
use Rattle.ps_model.specs.declared.pieces.Direction.{Direction}
use Rattle.ps_model.specs.declared.pieces.Direction.TheVariants.{Up, Down, Left, Right}
use Rattle.ps_model.specs.declared.pieces.Slot.{Slot}
use Rattle.ps_model.specs.board.Grid.{Grid}
use Rattle.ps_model.specs.meaning.Directions.{opposite}
use Rattle.ps_model.specs.rules.SourceRules.{Commands}
use Rattle.ps_model.specs.meaning.RuleMeanings.{CellMeaning, RuleMeaning}
use Rattle.ps_model.specs.board.Places.{fits_there, fits_along, cells_in, places}
use Rattle.ps_model.specs.board.Attempts.{State, Result, Rewritten, same_cell, rewritten_cell, rewritten_along}
use Rattle.ps_model.specs.board.Attempts.{combinations, all_fit, rewritten_rows, applied, queue_after, all_applied}
use Rattle.ps_model.specs.board.Attempts.{attempt_by, combinations_on, attempt}
use Rattle.ps_model.specs.meaning.TurnedRound.{row_turned, turned_round, turned_from, forwards}
use Rattle.ps_laws.proofs.common.Everywhere.{All-mapped, All-flat_map, All-always}
use Rattle.ps_laws.proofs.common.Stages.{map-flat_map, same_map, same_flat_map}
use Rattle.ps_laws.proofs.alike.RisingPlaces.{Rises, IsForwards, places-rise}
use Rattle.ps_laws.proofs.alike.TurnedPlaces.{cells_in-turned, row_turned-twice, fits-turned, places-turned}
use Rattle.ps_laws.proofs.common.Lists.{read_other}
use Rattle.ps_laws.proofs.common.Truths.{and_then, both-hold}

-- two cells -----------------------------------------------------------------------------------------------------------

-- a cell rewritten leaves the others
pub cell-other : (r : Rewritten) (meaning : CellMeaning) (i j : ℕ) (found : Option (List Slot)) → i ≢ j →
    slice_get (rewritten_cell r meaning i found).grid.cells j ≡ slice_get r.grid.cells j
cell-other r meaning i j None n = refl
cell-other r meaning i j (Some cell) n = read_other r.grid.cells i j (meaning.rewritten cell) n

or_swap : (a b c : Bool) → (a || b) || c ≡ (a || c) || b
or_swap true b c = refl
or_swap false true true = refl
or_swap false true false = refl
or_swap false false true = refl
or_swap false false false = refl

-- two cells, of which what stands there is known, rewritten in either order
known-swap : (r : Rewritten) (first second : CellMeaning) (i j : ℕ) (here there : Option (List Slot)) → i ≢ j →
    rewritten_cell (rewritten_cell r first i here) second j there ≡ rewritten_cell (rewritten_cell r second j there)
    first i here
known-swap r first second i j None there n = refl
known-swap r first second i j (Some here) None n = refl
known-swap r first second i j (Some here) (Some there) n =
    ap₂ (λ (cells : List (List Slot)) (changed : Bool). let g : Grid = r.grid in let made : Rewritten =
    record { grid = record g { cells = cells }; changed = changed } in made)
    (set_comm r.grid.cells i j (first.rewritten here) (second.rewritten there) n)
    (or_swap r.changed (not (same_cell here (first.rewritten here))) (not (same_cell there (second.rewritten there))))

-- a cell rewritten, whatever stands there
abbrev pub cell_step : Rewritten → CellMeaning → ℕ → Rewritten
cell_step r meaning cell = rewritten_cell r meaning cell (slice_get r.grid.cells cell)

-- two different cells rewritten in either order
pub cells-swap : (r : Rewritten) (first second : CellMeaning) (i j : ℕ) → i ≢ j →
    cell_step (cell_step r first i) second j ≡ cell_step (cell_step r second j) first i
cells-swap r first second i j n =
    ap (rewritten_cell (cell_step r first i) second j) (cell-other r first i j (slice_get r.grid.cells i) n)
    ∙ known-swap r first second i j (slice_get r.grid.cells i) (slice_get r.grid.cells j) n
    ∙ ap (rewritten_cell (cell_step r second j) first i)
    (sym (cell-other r second j i (slice_get r.grid.cells j) (λ e. n (sym e))))

-- the cells of a place ------------------------------------------------------------------------------------------------

-- a cell before or after cells of greater numbers
cell-behind : (meanings : List CellMeaning) (cells : List ℕ) (r : Rewritten) (meaning : CellMeaning) (cell low : ℕ) →
    cell < low → Rises low cells →
    cell_step (rewritten_along r meanings cells) meaning cell ≡ rewritten_along (cell_step r meaning cell) meanings
    cells
cell-behind [] cells r meaning cell low h rises = refl
cell-behind (other ∷ others) [] r meaning cell low h rises = refl
cell-behind (other ∷ others) (next ∷ cells) r meaning cell low h rises =
    let above : low ≤ next = rises.0 in
    let differ : next ≢ cell = omega arith in
    cell-behind others cells (cell_step r other next) meaning cell (suc next) (omega arith) rises.1
    ∙ ap (λ (made : Rewritten). rewritten_along made others cells) (cells-swap r other meaning next cell differ)

-- two lists one after the other
along-append : (meanings others : List CellMeaning) (cells more : List ℕ) (r : Rewritten) →
    length meanings ≡ length cells →
    rewritten_along r (meanings ++ others) (cells ++ more) ≡ rewritten_along (rewritten_along r meanings cells) others
    more
along-append [] others [] more r e = refl
along-append [] others (cell ∷ cells) more r e = absurd (omega arith)
along-append (meaning ∷ meanings) others [] more r e = absurd (omega arith)
along-append (meaning ∷ meanings) others (cell ∷ cells) more r e =
    along-append meanings others cells more (cell_step r meaning cell) (omega arith)

-- both lists read backwards
along-reversed : (meanings : List CellMeaning) (cells : List ℕ) (r : Rewritten) (low : ℕ) →
    length meanings ≡ length cells → Rises low cells →
    rewritten_along r (reverse meanings) (reverse cells) ≡ rewritten_along r meanings cells
along-reversed [] [] r low e rises = refl
along-reversed [] (cell ∷ cells) r low e rises = absurd (omega arith)
along-reversed (meaning ∷ meanings) [] r low e rises = absurd (omega arith)
along-reversed (meaning ∷ meanings) (cell ∷ cells) r low e rises =
    let same : length meanings ≡ length cells = omega arith in
    ap₂ (rewritten_along r) (reverse-append (meaning ∷ []) meanings) (reverse-append (cell ∷ []) cells)
    ∙ along-append (reverse meanings) (meaning ∷ []) (reverse cells) (cell ∷ []) r (length-reverse meanings ∙ same
    ∙ sym (length-reverse cells))
    ∙ ap (λ (made : Rewritten). cell_step made meaning cell) (along-reversed meanings cells r (suc cell) same rises.1)
    ∙ cell-behind meanings cells r meaning cell (suc cell) (omega arith) rises.1

-- there are as many cells as fit
fit-lengths : (g : Grid) (meanings : List CellMeaning) (cells : List ℕ) → fits_along g meanings cells ≡ true →
    length meanings ≡ length cells
fit-lengths g [] [] h = refl
fit-lengths g [] (cell ∷ cells) h = absurd (cc h)
fit-lengths g (meaning ∷ meanings) [] h = absurd (cc h)
fit-lengths g (meaning ∷ meanings) (cell ∷ cells) h =
    ap suc (fit-lengths g meanings cells (both-hold (fits_there meaning (slice_get g.cells cell))
    (fits_along g meanings cells) h).1)

-- the cells of a row turned round
row-turned : (g : Grid) (row : List (List CellMeaning)) (place : List ℕ) (r : Rewritten) →
    fits_along g (cells_in row) place ≡ true → Rises 0 place →
    rewritten_along r (cells_in (row_turned row)) (reverse place) ≡ rewritten_along r (cells_in row) place
row-turned g row place r fits rises =
    ap (λ (meanings : List CellMeaning). rewritten_along r meanings (reverse place)) (cells_in-turned row)
    ∙ along-reversed (cells_in row) place r 0 (fit-lengths g (cells_in row) place fits) rises

-- combinations --------------------------------------------------------------------------------------------------------

-- all rows turned round fit where the rows do
rows-fit : (g : Grid) (rows : List (List (List CellMeaning))) (ps : List (List ℕ)) →
    all_fit g (map row_turned rows) (map reverse ps) ≡ all_fit g rows ps
rows-fit g [] ps = refl
rows-fit g (row ∷ rows) [] = refl
rows-fit g (row ∷ rows) (place ∷ ps) = ap₂ and_then (fits-turned g row place) (rows-fit g rows ps)

-- all rows turned round
rows-turned : (g : Grid) (rows : List (List (List CellMeaning))) (ps : List (List ℕ)) (r : Rewritten) →
    all_fit g rows ps ≡ true → All (Rises 0) ps →
    rewritten_rows r (map row_turned rows) (map reverse ps) ≡ rewritten_rows r rows ps
rows-turned g [] ps r fit rise = refl
rows-turned g (row ∷ rows) [] r fit rise = refl
rows-turned g (row ∷ rows) (place ∷ ps) r fit rise =
    let both : (fits_along g (cells_in row) place ≡ true) × (all_fit g rows ps ≡ true) =
    both-hold (fits_along g (cells_in row) place) (all_fit g rows ps) fit in
    ap (λ (made : Rewritten). rewritten_rows made (map row_turned rows) (map reverse ps))
    (row-turned g row place r both.0 (All-head (Rises 0) place ps rise))
    ∙ rows-turned g rows ps (rewritten_along r (cells_in row) place) both.1 (All-tail (Rises 0) place ps rise)

-- a rewriting where a test holds, and otherwise another
abbrev pub chosen_by : Bool → Rewritten → Rewritten → Rewritten
chosen_by test made otherwise = elim test [ true ↦ made | false ↦ otherwise ]

-- equal choices: the tests are equal, and so are the first rewritings where the tests hold
chosen-same : (test other : Bool) (first second otherwise : Rewritten) → test ≡ other →
    (other ≡ true → first ≡ second) → chosen_by test first otherwise ≡ chosen_by other second otherwise
chosen-same true true first second otherwise e h = h refl
chosen-same true false first second otherwise e h = absurd (cc e)
chosen-same false true first second otherwise e h = absurd (cc e)
chosen-same false false first second otherwise e h = refl

-- one combination
applied-turned : (rows : List (List (List CellMeaning))) (r : Rewritten) (ps : List (List ℕ)) → All (Rises 0) ps →
    applied (map row_turned rows) r (map reverse ps) ≡ applied rows r ps
applied-turned rows r ps rise =
    chosen-same (all_fit r.grid (map row_turned rows) (map reverse ps)) (all_fit r.grid rows ps)
    (rewritten_rows r (map row_turned rows) (map reverse ps)) (rewritten_rows r rows ps) r
    (rows-fit r.grid rows ps) (λ fit. rows-turned r.grid rows ps r fit rise)

-- all combinations in order
folded-turned : (rows : List (List (List CellMeaning))) (r : Rewritten) (pss : List (List (List ℕ))) →
    All (All (Rises 0)) pss →
    fold (applied (map row_turned rows)) r (map (map reverse) pss) ≡ fold (applied rows) r pss
folded-turned rows r [] rise = refl
folded-turned rows r (ps ∷ pss) rise =
    ap (λ (made : Rewritten). fold (applied (map row_turned rows)) made (map (map reverse) pss))
    (applied-turned rows r ps (All-head (All (Rises 0)) ps pss rise))
    ∙ folded-turned rows (applied rows r ps) pss (All-tail (All (Rises 0)) ps pss rise)

-- the combinations of places read backwards
combinations-mapped : (f : List ℕ → List ℕ) (pss : List (List (List ℕ))) →
    combinations (map (map f) pss) ≡ map (map f) (combinations pss)
combinations-mapped f [] = refl
combinations-mapped f (ps ∷ pss) =
    ap (flat_map (λ rest. map (λ place. place ∷ rest) (map f ps))) (combinations-mapped f pss)
    ∙ flat_map-map (λ rest. map (λ place. place ∷ rest) (map f ps)) (map f) (combinations pss)
    ∙ same_flat_map (λ rest. map (λ place. place ∷ map f rest) (map f ps)) (λ rest.
    map (map f) (map (λ place. place ∷ rest) ps)) (λ rest.
    map-map (λ place. place ∷ map f rest) f ps ∙ sym (map-map (map f) (λ place. place ∷ rest) ps)) (combinations pss)
    ∙ sym (map-flat_map (map f) (λ rest. map (λ place. place ∷ rest) ps) (combinations pss))

-- what all places have, those of all combinations have
combinations-all : (P : List ℕ → Type 0) (pss : List (List (List ℕ))) → All (All P) pss → All (All P) (combinations pss)
combinations-all P [] all = All-cons (All P) [] [] (All-nil P) (All-nil (All P))
combinations-all P (ps ∷ pss) all =
    All-flat_map (All P) (All P) (λ rest. map (λ place. place ∷ rest) ps) (combinations pss)
    (λ rest had. All-mapped (All P) P (λ place. place ∷ rest) ps (λ place one.
    All-cons P place rest one had) (All-head (All P) ps pss all))
    (combinations-all P pss (All-tail (All P) ps pss all))

-- rules ---------------------------------------------------------------------------------------------------------------

-- the combinations of a rule turned round
combinations_on-turned : (g : Grid) (rule : RuleMeaning) →
    combinations_on g (turned_round rule) ≡ map (map reverse) (combinations_on g rule)
combinations_on-turned g rule =
    ap combinations (map-map (places g (opposite rule.direction)) row_turned rule.rows
    ∙ same_map (λ row. places g (opposite rule.direction) (row_turned row)) (λ row.
    map reverse (places g rule.direction row)) (places-turned g rule.direction) rule.rows
    ∙ sym (map-map (map reverse) (places g rule.direction) rule.rows))
    ∙ combinations-mapped reverse (map (places g rule.direction) rule.rows)

-- their cells rise, for a rule that faces down or right
combinations_on-rise : (g : Grid) (rule : RuleMeaning) → IsForwards rule.direction →
    All (All (Rises 0)) (combinations_on g rule)
combinations_on-rise g rule h =
    combinations-all (Rises 0) (map (places g rule.direction) rule.rows)
    (All-map (All (Rises 0)) (places g rule.direction) rule.rows
    (All-always (λ row. All (Rises 0) (places g rule.direction row)) rule.rows (places-rise g rule.direction h)))

queue_after-turned : (queue : Commands) (rule : RuleMeaning) (pss : List (List (List ℕ))) →
    queue_after queue (turned_round rule) (map (map reverse) pss) ≡ queue_after queue rule pss
queue_after-turned queue rule [] = refl
queue_after-turned queue rule (ps ∷ pss) = refl

all_applied-turned : (rule : RuleMeaning) (g : Grid) (pss : List (List (List ℕ))) → All (All (Rises 0)) pss →
    all_applied (turned_round rule) g (map (map reverse) pss) ≡ all_applied rule g pss
all_applied-turned rule g pss rise =
    let start : Rewritten = record { grid = g; changed = false } in
    ap (λ (made : Rewritten). elim rule.rewrites [ true ↦ made | false ↦ start ])
    (folded-turned rule.rows start pss rise)

-- an attempt of a rule that faces down or right, turned round
facing-turned : (rule : RuleMeaning) → IsForwards rule.direction → (state : State) →
    attempt (turned_round rule) state ≡ attempt rule state
facing-turned rule h state =
    let pss : List (List (List ℕ)) = combinations_on state.grid rule in
    ap (attempt_by (turned_round rule) state) (combinations_on-turned state.grid rule)
    ∙ ap₂ (λ (r : Rewritten) (queue : Commands). let result : Result =
    record { state = record { grid = r.grid; queue = queue }; changed = r.changed } in result)
    (all_applied-turned rule state.grid pss (combinations_on-rise state.grid rule h))
    (queue_after-turned state.queue rule pss)

opposite-twice : (direction : Direction) → opposite (opposite direction) ≡ direction
opposite-twice Up = refl
opposite-twice Down = refl
opposite-twice Left = refl
opposite-twice Right = refl

-- turned round twice it is as it was
pub turned_round-twice : (rule : RuleMeaning) → turned_round (turned_round rule) ≡ rule
turned_round-twice rule =
    ap₂ (λ (direction : Direction) (rows : List (List (List CellMeaning))). let turned : RuleMeaning =
    record rule { direction = direction; rows = rows } in turned)
    (opposite-twice rule.direction)
    (map-map row_turned row_turned rule.rows ∙ same_map (λ row. row_turned (row_turned row)) (λ row.
    row) row_turned-twice rule.rows ∙ map-id rule.rows)

-- an attempt of any other rule turned round
away-turned : (rule : RuleMeaning) → IsForwards (opposite rule.direction) → (state : State) →
    attempt (turned_round rule) state ≡ attempt rule state
away-turned rule h state =
    sym (facing-turned (turned_round rule) h state)
    ∙ ap (λ (other : RuleMeaning). attempt other state) (turned_round-twice rule)

by-direction : (rule : RuleMeaning) (direction : Direction) → rule.direction ≡ direction → (state : State) →
    attempt (turned_round rule) state ≡ attempt rule state
by-direction rule Up e state = away-turned rule (subst (λ direction. IsForwards (opposite direction)) (sym e) tt) state
by-direction rule Down e state = facing-turned rule (subst IsForwards (sym e) tt) state
by-direction rule Left e state = away-turned rule (subst (λ direction. IsForwards (opposite direction)) (sym e) tt)
    state
by-direction rule Right e state = facing-turned rule (subst IsForwards (sym e) tt) state

-- an attempt of a rule turned round
pub attempt-turned : (rule : RuleMeaning) (state : State) → attempt (turned_round rule) state ≡ attempt rule state
attempt-turned rule state = by-direction rule rule.direction refl state

-- an attempt of a rule that faces down or right
pub attempt-forwards : (rule : RuleMeaning) (state : State) → attempt (forwards rule) state ≡ attempt rule state
attempt-forwards rule state = forwards-from rule.direction where
  forwards-from : (direction : Direction) → attempt (turned_from direction rule) state ≡ attempt rule state
  forwards-from Up = attempt-turned rule state
  forwards-from Down = refl
  forwards-from Left = attempt-turned rule state
  forwards-from Right = refl
