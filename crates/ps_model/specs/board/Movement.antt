-- Movement: each object whose motion is a direction wants to go one cell on in its layer. It goes where that cell is
-- free or becomes free in the same movement; of several objects that want to enter one cell, one wins. Objects never
-- change places, and rings never turn. Then all objects are at rest.
use Rattle.std.specs.Prelude.{ℕ, suc, zero, nat_lt, nat_eq, Bool, true, false, ◌&&◌, Option, Some, None, map, find}
use Rattle.std.specs.Option.{option_or}
use Rattle.std.specs.List.{range_with_len}
use Rattle.ps_model.specs.declared.pieces.Motion.TheVariants.{Still, Going, Acting}
use Rattle.ps_model.specs.declared.pieces.Slot.{Slot}
use Rattle.ps_model.specs.declared.pieces.Slot.TheVariants.{Bare, Holds}
use Rattle.ps_model.specs.board.Grid.{Grid, cell_count, slot_at, slot_at_rest, neighbour}

-- where the object of a slot wants to go from its cell
abbrev pub aim_of : Grid → ℕ → Slot → Option ℕ
aim_of g cell Bare = None
aim_of g cell (Holds object Still) = None
aim_of g cell (Holds object (Going direction)) = neighbour g direction cell
aim_of g cell (Holds object Acting) = None

-- the target of the object that stands on a layer of a cell
abbrev pub target : Grid → ℕ → ℕ → Option ℕ
target g layer cell = aim_of g cell (slot_at g cell layer)

-- no object stands in the slot
abbrev pub is_bare_slot : Slot → Bool
is_bare_slot Bare = true
is_bare_slot (Holds object motion) = false

-- no object stands on that layer of the cell
abbrev pub is_bare : Grid → ℕ → ℕ → Bool
is_bare g layer cell = is_bare_slot (slot_at g cell layer)

-- the option has that number
abbrev pub is_number : Option ℕ → ℕ → Bool
is_number None n = false
is_number (Some m) n = nat_eq m n

-- the contender of least number that passes a test: a contender of a cell is a cell whose object wants to go there
abbrev pub least_contender : Grid → ℕ → ℕ → (ℕ → Bool) → Option ℕ
least_contender g layer cell passes = find (λ from.
    is_number (target g layer from) cell && passes from) (range_with_len 0 (cell_count g))

-- the contender that may enter a cell: the least, where the cell's layer is bare; else the least above the cell's own
-- number, or, if none is above, the least of all
abbrev pub winner : Grid → ℕ → ℕ → Option ℕ
winner g layer cell = elim (is_bare g layer cell) [
  | true ↦ least_contender g layer cell (λ from. true)
  | false ↦ option_or (least_contender g layer cell (nat_lt cell)) (least_contender g layer cell (λ from. true))
]

-- a chain of at most that number of links leads from the cell to a bare one: each cell of it is the winner of the next
abbrev pub slides_within : Grid → ℕ → ℕ → ℕ → Bool
slides_within g layer zero cell = false
slides_within g layer (suc links) cell = elim (target g layer cell) [
  | None ↦ false
  | Some to ↦ elim (is_number (winner g layer to) cell) [
    | false ↦ false
    | true ↦ elim (is_bare g layer to) [ true ↦ true | false ↦ slides_within g layer links to ]
  ]
]

-- the object of a cell slides: some chain leads from it to a bare cell. No chain without a ring has more links than
-- there are cells
abbrev pub slides : Grid → ℕ → ℕ → Bool
slides g layer cell = slides_within g layer (cell_count g) cell

-- the cell, if its object slides
abbrev pub if_slides : Grid → ℕ → Option ℕ → Option ℕ
if_slides g layer None = None
if_slides g layer (Some cell) = elim (slides g layer cell) [ true ↦ Some cell | false ↦ None ]

-- the cell whose object slides into this one
abbrev pub entrant : Grid → ℕ → ℕ → Option ℕ
entrant g layer cell = if_slides g layer (winner g layer cell)

-- a slot after the movement: the object that slid in; else nothing, where the own object slid away; else what stood
-- there
abbrev pub slid_slot : Grid → ℕ → ℕ → Slot
slid_slot g layer cell = elim (entrant g layer cell) [
  | Some from ↦ slot_at_rest (slot_at g from layer)
  | None ↦ elim (slides g layer cell) [ true ↦ Bare | false ↦ slot_at_rest (slot_at g cell layer) ]
]

-- the grid after the movement
abbrev pub slid : Grid → Grid
slid g = record g {
  cells = map (λ cell. map (λ layer. slid_slot g layer cell) (range_with_len 0 g.layers))
      (range_with_len 0 (cell_count g));
}
