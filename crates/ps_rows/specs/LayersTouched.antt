-- The layers that a write has something for, as a set.
use Rattle.std.specs.Prelude.{ℕ, nat_eq, nat_lt, Bool, ◌&&◌, List}
use Rattle.std.specs.List.{list_any}
use Rattle.ps_model.specs.declared.compiled.LayeredObject.{LayeredObject}
use Rattle.ps_model.specs.declared.compiled.LayerWrite.{LayerWrite}
use Rattle.ps_board.specs.declared.one_word.TheConstants.{WORD_BITS}

-- the layer is one of so many, and there is room for it in a word
abbrev pub is_reached : ℕ → ℕ → Bool
is_reached count layer = nat_lt layer count && nat_lt layer WORD_BITS

-- one of the objects goes from the layer
abbrev pub loses_one : List LayeredObject → ℕ → Bool
loses_one gone layer = list_any (λ each. nat_eq (each.layer).0 layer) gone

-- one of the writes is the layer's
abbrev pub is_written : List LayerWrite → ℕ → Bool
is_written writes layer = list_any (λ each. nat_eq (each.layer).0 layer) writes
