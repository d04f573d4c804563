-- Numbers that stand twice, by those that were seen before.
use Rattle.std.specs.Prelude.{ℕ, nat_eq, Bool, false, ◌||◌, List, [], ◌∷◌, ◌++◌, map}
use Rattle.std.specs.List.{list_any}
use Rattle.ps_model.specs.declared.pieces.ObjectId.{ObjectId}

-- after numbers that were seen stands one of them, or one twice
abbrev pub twice_behind : List ℕ → List ℕ → Bool
twice_behind seen [] = false
twice_behind seen (number ∷ numbers) = list_any (nat_eq number) seen || twice_behind (seen ++ number ∷ []) numbers

abbrev pub object_numbers : List ObjectId → List ℕ
object_numbers objects = map (λ object. object.0) objects
