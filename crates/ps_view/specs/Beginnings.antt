-- What a view began with, and a mark by which it is known among all views.
use Rattle.std.specs.Prelude.{ℕ, Bool, true, false, Option, Some, None, List, [], ◌∷◌, ◌++◌, length}
use Rattle.ps_view.specs.declared.heard_keys.HeardKeys.{HeardKeys}
use Rattle.ps_view.specs.declared.sizes.Size.{Size}
use Rattle.ps_view.specs.Games.{KnownGame}

-- a view's game and the first size of its terminal; whether no other size will be told; what the writer below had taken
-- before, as far as that tells; and the name that proofs have for the reference to that writer
pub record Beginning : Type 0 where
  pub game : KnownGame
  pub size : Size
  pub keeps_size : Bool
  pub before : Option (List ℕ)
  pub reference : ℕ

-- the mark of a beginning: numbers that are the front of no other beginning's mark -----------------------------------

-- a truth value
abbrev pub mark_of_truth : Bool → ℕ
mark_of_truth true = 1
mark_of_truth false = 0

-- which keys a game heeds
abbrev pub mark_of_heard : HeardKeys → List ℕ
mark_of_heard heard = mark_of_truth heard.acts ∷ mark_of_truth heard.undoes ∷ mark_of_truth heard.restarts ∷ []

-- numbers, after how many they are
abbrev pub mark_of_numbers : List ℕ → List ℕ
mark_of_numbers numbers = length numbers ∷ numbers

-- bytes that are told, or aren't
abbrev pub mark_of_told : Option (List ℕ) → List ℕ
mark_of_told None = 0 ∷ []
mark_of_told (Some bytes) = 1 ∷ mark_of_numbers bytes

-- a beginning
unfoldable pub mark : Beginning → List ℕ
mark begun = begun.reference ∷ begun.size.rows ∷ begun.size.columns ∷ mark_of_truth begun.keeps_size
    ∷ (mark_of_heard begun.game.heard ++ (mark_of_numbers begun.game.players ++ mark_of_told begun.before))
