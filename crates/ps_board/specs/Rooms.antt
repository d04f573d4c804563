-- Where an object may stand. A board may keep a table of the layer of each object of its game, and then each object has
-- room on its own layer alone; a board without a table takes any object on any layer.
use Rattle.std.specs.Prelude.{◌≡◌, ℕ, Bool, true, Option, Some, None, List, map, slice_get}
use Rattle.ps_model.specs.declared.pieces.ObjectId.{ObjectId}
use Rattle.ps_model.specs.declared.pieces.LayerId.{LayerId}
use Rattle.ps_model.specs.board.Movement.{is_number}

-- the object may stand on that layer
abbrev pub has_room : Option (List ℕ) → ObjectId → ℕ → Bool
has_room None object layer = true
has_room (Some layers) object layer = is_number (slice_get layers object.0) layer

abbrev pub HasRoom : Option (List ℕ) → ObjectId → ℕ → Type 0
HasRoom table object layer = has_room table object layer ≡ true

-- each object may stand on its layer, as a list gives it
abbrev pub HaveRoom : Option (List ℕ) → List LayerId → Type 0
HaveRoom table layers = (object : ObjectId) (layer : LayerId) → slice_get layers object.0 ≡ Some layer →
    HasRoom table object layer.0

-- the numbers of layers
abbrev pub layer_numbers : List LayerId → List ℕ
layer_numbers layers = map (λ layer. layer.0) layers
