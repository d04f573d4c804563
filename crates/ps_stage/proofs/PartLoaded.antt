-- A level loaded cell by cell.
use Rattle.std.proofs.Common.{◌≡◌, ◌∙◌, ℕ, suc, ◌+◌, ◌-◌, ◌*◌, ◌<◌, ◌≤◌, List, [], ◌∷◌, ◌++◌, length, map, take, get_or}
use Rattle.std.proofs.Common.{replicate, fold, refl, sym, ap, append_assoc, arith}
use Rattle.std.specs.Prelude.{slice_set}
use Rattle.std.proofs.lemmas.List.{get_or-set_same, set-set, set-append_right, get_or-append-add, length-set, map_more}
use Rattle.std.proofs.lemmas.List.{take_all}
use Rattle.std.proofs.lemmas.List.Elements.{All-append, All-map, All-replicate}
use Rattle.std.proofs.lemmas.Grind.{common_steps}
use Rattle.std.proofs.lemmas.List.{length-replicate}
use Rattle.ps_model.specs.declared.pieces.ObjectId.{ObjectId}
use Rattle.ps_model.specs.declared.pieces.Motion.TheVariants.{Still}
use Rattle.ps_model.specs.declared.pieces.Slot.{Slot}
use Rattle.ps_model.specs.declared.pieces.Slot.TheVariants.{Bare, Holds}
use Rattle.ps_model.specs.names.Names.{Names, layer_of}
use Rattle.ps_model.specs.board.Grid.{Grid, IsGrid, cell_at, with_slot, empty_grid}
use Rattle.ps_model.specs.board.Levels.{Level, cell_of, loaded}
use Rattle.ps_stage.specs.CellsLoaded.{grid_with_cell}
use Rattle.ps_stage.specs.Playable.{IsPlayable}

-- a grid of which so many cells are loaded, and the others bare
abbrev pub partly_loaded : Names → Level → ℕ → Grid
partly_loaded names level n = record {
  width = level.width;
  height = level.height;
  layers = names.layer_count;
  cells = map (cell_of names) (take n level.cells) ++ replicate (level.width * level.height - n)
      (replicate names.layer_count Bare);
}

-- putting objects into a cell keeps its slots
filled_long : (names : Names) (objects : List ObjectId) (slots : List Slot) →
    length (fold (λ slots object. slice_set slots (layer_of names object) (Holds object Still)) slots objects) ≡ length
    slots
filled_long names [] slots = refl
filled_long names (object ∷ objects) slots =
    filled_long names objects (slice_set slots (layer_of names object) (Holds object Still))
    ∙ length-set slots (layer_of names object) (Holds object Still)

-- where there are objects there are layers, as each object lies on one
pub some_layer : (names : Names) (level : Level) → IsPlayable names level → 1 ≤ names.layer_count
some_layer names level playable =
    let below : get_or names.layers 0 0 < names.layer_count =
    playable.bounded.layers_below 0 0 (omega (arith, playable.some_object)) in
    omega arith

-- a partly loaded grid is a grid
pub partly_shape : (names : Names) (level : Level) (n : ℕ) → IsPlayable names level → n ≤ length level.cells →
    IsGrid (partly_loaded names level n)
partly_shape names level n playable few =
    let bare : List Slot = replicate names.layer_count Bare in
    let front : length (map (cell_of names) (take n level.cells)) ≡ n = grind (arith, common_steps) in
    let behind : length (replicate (level.width * level.height - n) bare) ≡ level.width * level.height - n =
    length-replicate (level.width * level.height - n) bare in
    let all : length level.cells ≡ level.width * level.height = playable.sized.cells in
    record {
      some_column = omega (arith, playable.sized.some_column);
      columns = playable.sized.columns;
      some_row = omega (arith, playable.sized.some_row);
      rows = playable.sized.rows;
      some_layer = omega (arith, some_layer names level playable);
      few_layers = playable.bounded.few_layers;
      cells = grind (arith, common_steps);
      slots =
          All-append (λ cell. length cell ≡ names.layer_count) (map (cell_of names) (take n level.cells))
          (replicate (level.width * level.height - n) bare)
          (All-map (λ cell. length cell ≡ names.layer_count) (cell_of names) (take n level.cells) (λ k d h.
          filled_long names (get_or (take n level.cells) k d) bare ∙ length-replicate names.layer_count Bare))
          (All-replicate (λ cell. length cell ≡ names.layer_count) (level.width * level.height - n) bare
          (length-replicate names.layer_count Bare));
    }

-- one more element in the place of the first that is still as at the start
one_more : {X Y : Type 0} (f : X → Y) (bare : Y) (xs : List X) (n total : ℕ) (d : X) → n < length xs →
    length xs ≡ total →
    slice_set (map f (take n xs) ++ replicate (total - n) bare) n (f (get_or xs n d)) ≡ map f (take (n + 1) xs) ++
    replicate (total - (n + 1)) bare
one_more f bare xs n total d within all =
    let front : length (map f (take n xs)) ≡ n = grind (arith, common_steps) in
    let left : total - n ≡ suc (total - (n + 1)) = omega arith in
    let none : n - n ≡ 0 = omega arith in
    set-append_right (map f (take n xs)) (replicate (total - n) bare) n n (f (get_or xs n d)) front (omega arith)
    ∙ rw (none, left) (sym (append_assoc (map f (take n xs)) (f (get_or xs n d) ∷ [])
    (replicate (total - (n + 1)) bare)))
    ∙ ap (λ ys. ys ++ replicate (total - (n + 1)) bare) (sym (map_more f xs n d within))

-- that first is as at the start
still_bare : {Y : Type 0} (bare d : Y) (front : List Y) (n total : ℕ) → length front ≡ n → n < total →
    get_or (front ++ replicate (total - n) bare) n d ≡ bare
still_bare bare d front n total long within =
    let left : total - n ≡ suc (total - (n + 1)) = omega arith in
    let place : n ≡ length front + 0 = omega arith in
    ap (λ k. get_or (front ++ replicate (total - n) bare) k d) place
    ∙ get_or-append-add front (replicate (total - n) bare) 0 d ∙ rw left refl

-- one more cell of a level
pub one_more_loaded : (names : Names) (level : Level) (n : ℕ) → IsPlayable names level → n < length level.cells →
    grid_with_cell (partly_loaded names level n) n
    (fold (λ slots object. slice_set slots (layer_of names object) (Holds object Still))
    (cell_at (partly_loaded names level n) n) (get_or level.cells n []))
    ≡ partly_loaded names level (n + 1)
one_more_loaded names level n playable within =
    let bare : List Slot = replicate names.layer_count Bare in
    let total : ℕ = level.width * level.height in
    let all : length level.cells ≡ level.width * level.height = playable.sized.cells in
    let front : length (map (cell_of names) (take n level.cells)) ≡ n = grind (arith, common_steps) in
    let start : cell_at (partly_loaded names level n) n ≡ bare =
    still_bare bare [] (map (cell_of names) (take n level.cells)) n (level.width * level.height) front
    (omega arith) in
    ap (λ (slots : List Slot). grid_with_cell (partly_loaded names level n) n
    (fold (λ slots object. slice_set slots (layer_of names object) (Holds object Still)) slots
    (get_or level.cells n []))) start
    ∙ ap (λ (cells : List (List Slot)). let g : Grid =
    record { width = level.width; height = level.height; layers = names.layer_count; cells = cells } in g)
    (one_more (cell_of names) bare level.cells n (level.width * level.height) [] within all)

-- a grid of which all cells are loaded
pub all_loaded : (names : Names) (level : Level) (n : ℕ) → IsPlayable names level → length level.cells ≤ n →
    partly_loaded names level n ≡ loaded names level
all_loaded names level n playable many =
    let all : length level.cells ≡ level.width * level.height = playable.sized.cells in
    let none : level.width * level.height - n ≡ 0 = omega arith in
    ap (λ (cells : List (List Slot)). let g : Grid =
    record { width = level.width; height = level.height; layers = names.layer_count; cells = cells } in g)
    (rw (none, take_all n level.cells many) (grind (arith, common_steps)))

-- an object put into a cell
pub put_in_cell : (g : Grid) (cell layer : ℕ) (slots : List Slot) (slot : Slot) → cell < length g.cells →
    with_slot (grid_with_cell g cell slots) cell layer slot ≡ grid_with_cell g cell (slice_set slots layer slot)
put_in_cell g cell layer slots slot within =
    let same : get_or (slice_set g.cells cell slots) cell [] ≡ slots = get_or-set_same g.cells cell slots [] within in
    ap (λ (s : List Slot). let h : Grid = record g {
      cells =
          slice_set (slice_set g.cells cell slots) cell (slice_set s layer slot);
    } in h) same
    ∙ ap (λ (cells : List (List Slot)). let h : Grid = record g { cells = cells } in
    h) (set-set g.cells cell slots (slice_set slots layer slot))

-- a grid of which no cell is loaded
pub none_loaded : (names : Names) (level : Level) (width height layers : ℕ) → width ≡ level.width →
    height ≡ level.height → layers ≡ names.layer_count →
    empty_grid width height layers ≡ partly_loaded names level 0
none_loaded names level width height layers same_width same_height same_layers =
    let all : level.width * level.height - 0 ≡ level.width * level.height = omega arith in
    rw (same_width, same_height, same_layers, all) refl
