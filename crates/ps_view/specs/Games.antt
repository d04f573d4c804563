-- What a view knows of the game that it shows.
use Rattle.std.specs.Prelude.{ℕ, List}
use Rattle.ps_view.specs.declared.heard_keys.HeardKeys.{HeardKeys}

-- the characters that show the player, alone or with other objects; and the keys that it heeds
pub record KnownGame : Type 0 where
  pub players : List ℕ
  pub heard : HeardKeys
