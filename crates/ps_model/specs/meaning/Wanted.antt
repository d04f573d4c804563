-- What an item of a rule asks of a cell of the board under a reading of the rule: words have their moves, and fixed
-- properties are one of their members.
use Rattle.std.specs.Prelude.{ℕ, nat_eq, if◌then◌else◌, Option, Some, None, List, [], ◌∷◌, slice_index_or}
use Rattle.std.specs.Map.{lookup}
use Rattle.ps_model.specs.declared.pieces.ObjectId.{ObjectId}
use Rattle.ps_model.specs.declared.pieces.Motion.{Motion}
use Rattle.ps_model.specs.declared.pieces.Motion.TheVariants.{Still}
use Rattle.ps_model.specs.declared.rules.MovementWord.{MovementWord}
use Rattle.ps_model.specs.meaning.Directions.{turned, is_several}
use Rattle.ps_model.specs.names.Names.{Meaning, One, AllOf, AnyOf, Names, members}
use Rattle.ps_model.specs.rules.SourceRules.{Item, Is, No, CellPair, SourceRule}
use Rattle.ps_model.specs.meaning.Occurrences.{is_fixed, bound_name, bound_word}
use Rattle.ps_model.specs.meaning.Readings.{Reading}

-- what an item asks of a cell under a reading: each of these objects; one of them, whichever; none of them. With a
-- motion, the objects have it; without one, they move or not
pub data Wanted : Type 0 where
  Each : List ObjectId → Option Motion → Wanted
  Any : List ObjectId → Option Motion → Wanted
  Without : List ObjectId → Wanted

-- the objects that `no` denies: on the left none of them may stand in the cell, and on the right they are taken away
abbrev pub denied : Wanted → List ObjectId
denied (Each objects motion) = []
denied (Any objects motion) = []
denied (Without objects) = objects

-- the move that is chosen for an occurrence
abbrev pub chosen_move : Reading → Option ℕ → Option Motion
chosen_move reading None = None
chosen_move reading (Some number) = lookup (nat_eq number) reading.moves

-- an object that may be absent, in a list of its own
abbrev pub one_member : Option ObjectId → List ObjectId
one_member None = []
one_member (Some object) = object ∷ []

-- the member that is chosen for an occurrence, in a list of its own
abbrev pub chosen_member : Reading → Option ℕ → List ObjectId
chosen_member reading None = []
chosen_member reading (Some number) = one_member (lookup (nat_eq number) reading.members)

-- the motion of a word: the chosen one, where the word leaves a choice
abbrev pub motion_of_word : Reading → Option ℕ → MovementWord → Option Motion
motion_of_word reading bound word =
    if is_several word then chosen_move reading bound else Some (slice_index_or (turned reading.direction word) 0 Still)

-- what a name asks whose property, if it is a fixed one, has the choice of an occurrence
abbrev pub wanted_name : Names → SourceRule → Reading → Option ℕ → Meaning → Option Motion → Wanted
wanted_name names rule reading bound (One object) motion = Each (object ∷ []) motion
wanted_name names rule reading bound (AllOf line objects) motion = Each objects motion
wanted_name names rule reading bound (AnyOf line objects) motion =
    if is_fixed names rule (AnyOf line objects) then Each (chosen_member reading bound) motion else Any objects motion

-- what an item of the left asks: the choices are its own
abbrev pub wanted_left : Names → SourceRule → Reading → Item → Wanted
wanted_left names rule reading (Is number None meaning) = wanted_name names rule reading (Some number) meaning None
wanted_left names rule reading (Is number (Some word) meaning) =
    wanted_name names rule reading (Some number) meaning (motion_of_word reading (Some number) word)
wanted_left names rule reading (No meaning) = Without (members meaning)

-- what the right puts there, by an item of a cell's right, or what it takes away with `no`: the choices are those of
-- the left occurrences that the item is bound to
abbrev pub wanted_right : Names → SourceRule → CellPair → Reading → Item → Wanted
wanted_right names rule cell reading (Is number None meaning) =
    wanted_name names rule reading (bound_name rule cell meaning) meaning None
wanted_right names rule cell reading (Is number (Some word) meaning) =
    wanted_name names rule reading (bound_name rule cell meaning) meaning
    (motion_of_word reading (bound_word rule cell word meaning) word)
wanted_right names rule cell reading (No meaning) = Without (members meaning)
