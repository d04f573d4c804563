-- The layers that a write has something for.
use Rattle.std.specs.Prelude.{ℕ, nat_eq, Bool, ◌||◌}
use Rattle.std.specs.List.{list_any}
use Rattle.ps_model.specs.meaning.Compiled.{CellWrite}

-- an object goes from the layer, or the layer is written
abbrev pub touches : CellWrite → ℕ → Bool
touches write layer = list_any (λ each. nat_eq (each.layer).0 layer) write.gone || list_any (λ each.
    nat_eq (each.layer).0 layer) write.layers
