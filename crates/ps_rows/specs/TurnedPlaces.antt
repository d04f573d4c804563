-- Places of planes: each plane has as many as a board has cells, in the order of the cells.
use Rattle.std.specs.Prelude.{ℕ, ◌*◌, ◌/◌, ◌%◌, nat_eq, nat_lt, ◌&&◌, Bool, List, slice_index_or}
use Rattle.ps_board.specs.ColumnSets.{column_at}
use Rattle.ps_rows.specs.PackedKeys.{differs, flipped, number_at}
use Rattle.ps_rows.specs.Planes.{has_cell}

-- what planes have at a place
unfoldable pub has_place : ℕ → ℕ → List (List Bool) → ℕ → Bool
has_place width height words place = has_cell height words (place % (width * height)) (place / (width * height))

-- the row of a place, and its column
abbrev pub row_at : ℕ → ℕ → ℕ → ℕ
row_at width height place = place % (width * height) % height

abbrev pub column_of : ℕ → ℕ → ℕ → ℕ
column_of width height place = place % (width * height) / height

-- the place is one of a row of a plane, in a column of a set
unfoldable pub in_row : ℕ → ℕ → ℕ → ℕ → List Bool → ℕ → Bool
in_row width height plane row columns place =
    nat_eq (place / (width * height)) plane
    && (nat_eq (row_at width height place) row && column_at columns (column_of width height place))

-- one of two boards alone has an object there
unfoldable pub differ_at : ℕ → ℕ → List (List Bool) → List (List Bool) → ℕ → Bool
differ_at width height first second place =
    flipped (has_place width height first place) (has_place width height second place)

-- the place is one of the planes of so many objects, in a row in which two boards differ there
unfoldable pub row_differs : ℕ → ℕ → ℕ → List (List Bool) → List (List Bool) → ℕ → ℕ → Bool
row_differs width height objects first second row place =
    nat_lt (place / (width * height)) objects
    && (nat_eq (row_at width height place) row && differ_at width height first second place)

-- or in one of several rows
unfoldable pub rows_differ : ℕ → ℕ → ℕ → List (List Bool) → List (List Bool) → List Bool → ℕ → Bool
rows_differ width height objects first second rows place =
    nat_lt (place / (width * height)) objects
    && (column_at rows (row_at width height place) && differ_at width height first second place)

-- the number of the place is a bit of a word of keys
unfoldable pub in_word : List ℕ → ℕ → List Bool → ℕ → Bool
in_word numbers index bits place =
    nat_eq (number_at numbers place / 64) index && column_at bits (number_at numbers place % 64)

-- two keys say different things of the place
unfoldable pub keys_differ : List ℕ → List ℕ → List ℕ → ℕ → Bool
keys_differ numbers words others place = flipped (differs numbers words place) (differs numbers others place)

-- an object's own layer is one of a board's
abbrev pub has_layer : List ℕ → ℕ → ℕ → Bool
has_layer table layers object = nat_lt (slice_index_or table object layers) layers

-- the object of the place has a layer, and a test holds
unfoldable pub is_turned : List ℕ → ℕ → ℕ → (ℕ → Bool) → ℕ → Bool
is_turned table layers cells which place = has_layer table layers (place / cells) && which place
