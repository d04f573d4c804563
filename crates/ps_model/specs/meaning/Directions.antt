-- What each movement word of a rule means, used in a direction: one move, or a choice of several in their order.
use Rattle.std.specs.Prelude.{ℕ, nat_eq, Bool, true, false, List, [], ◌∷◌}
use Rattle.ps_model.specs.declared.pieces.Direction.{Direction}
use Rattle.ps_model.specs.declared.pieces.Direction.TheVariants.{Up, Down, Left, Right}
use Rattle.ps_model.specs.declared.pieces.Motion.{Motion}
use Rattle.ps_model.specs.declared.pieces.Motion.TheVariants.{Still, Going, Acting}
use Rattle.ps_model.specs.declared.rules.MovementWord.{MovementWord}
use Rattle.ps_model.specs.declared.rules.MovementWord.TheVariants as word

-- the other way
abbrev pub opposite : Direction → Direction
opposite Up = Down
opposite Down = Up
opposite Left = Right
opposite Right = Left

-- a quarter turn to the left
abbrev pub left_of : Direction → Direction
left_of Up = Left
left_of Down = Right
left_of Left = Down
left_of Right = Up

-- the two moves up and down
abbrev pub vertical_moves : List Motion
vertical_moves = Going Up ∷ Going Down ∷ []

-- the two moves left and right
abbrev pub horizontal_moves : List Motion
horizontal_moves = Going Left ∷ Going Right ∷ []

-- along a direction, either way
abbrev pub along : Direction → List Motion
along Up = vertical_moves
along Down = vertical_moves
along Left = horizontal_moves
along Right = horizontal_moves

-- the moves of a word in a direction
abbrev pub turned : Direction → MovementWord → List Motion
turned direction word.Forwards = Going direction ∷ []
turned direction word.Backwards = Going (opposite direction) ∷ []
turned direction word.TurnedLeft = Going (left_of direction) ∷ []
turned direction word.TurnedRight = Going (opposite (left_of direction)) ∷ []
turned direction word.Parallel = along direction
turned direction word.Perpendicular = along (left_of direction)
turned direction word.Up = Going Up ∷ []
turned direction word.Down = Going Down ∷ []
turned direction word.Left = Going Left ∷ []
turned direction word.Right = Going Right ∷ []
turned direction word.Action = Acting ∷ []
turned direction word.Stationary = Still ∷ []
turned direction word.Moving = Going Up ∷ Going Down ∷ Going Left ∷ Going Right ∷ Acting ∷ []
turned direction word.Orthogonal = Going Up ∷ Going Down ∷ Going Left ∷ Going Right ∷ []
turned direction word.Horizontal = horizontal_moves
turned direction word.Vertical = vertical_moves

-- the word leaves a choice of several moves
abbrev pub is_several : MovementWord → Bool
is_several word.Parallel = true
is_several word.Perpendicular = true
is_several word.Moving = true
is_several word.Orthogonal = true
is_several word.Horizontal = true
is_several word.Vertical = true
is_several other = false

-- the word means another move in another direction of the rule
abbrev pub turns_with_rule : MovementWord → Bool
turns_with_rule word.Forwards = true
turns_with_rule word.Backwards = true
turns_with_rule word.TurnedLeft = true
turns_with_rule word.TurnedRight = true
turns_with_rule word.Parallel = true
turns_with_rule word.Perpendicular = true
turns_with_rule other = false

-- the place of a word among the words
abbrev pub word_number : MovementWord → ℕ
word_number word.Forwards = 0
word_number word.Backwards = 1
word_number word.TurnedLeft = 2
word_number word.TurnedRight = 3
word_number word.Parallel = 4
word_number word.Perpendicular = 5
word_number word.Up = 6
word_number word.Down = 7
word_number word.Left = 8
word_number word.Right = 9
word_number word.Action = 10
word_number word.Stationary = 11
word_number word.Moving = 12
word_number word.Orthogonal = 13
word_number word.Horizontal = 14
word_number word.Vertical = 15

-- the two are one word, as written
abbrev pub same_word : MovementWord → MovementWord → Bool
same_word first second = nat_eq (word_number first) (word_number second)
