-- A rule has a possible reading where one of each choice of members is.
use Rattle.std.proofs.Common.{◌≡◌, ℕ, ◌<◌, Bool, true, false, ◌||◌, List, [], ◌∷◌, length, map, take, refl, sym, ◌∙◌}
use Rattle.std.proofs.Common.{ap, arith, Some, None}
use Rattle.std.specs.Prelude.{All, IfSome, ⊤, if◌then◌else◌}
use Rattle.std.specs.List.{list_any}
use Rattle.std.proofs.lemmas.List.{length-map}
use Rattle.std.proofs.lemmas.List.Elements.{All-head, All-tail}
use Rattle.std.proofs.lemmas.Nat.{mul-le}
use Rattle.ps_model.specs.declared.pieces.ObjectId.{ObjectId}
use Rattle.ps_model.specs.declared.pieces.Direction.{Direction}
use Rattle.ps_model.specs.declared.pieces.Direction.TheVariants as direction
use Rattle.ps_model.specs.declared.pieces.Motion.{Motion}
use Rattle.ps_model.specs.declared.rules.MovementWord.{MovementWord}
use Rattle.ps_model.specs.declared.rules.MovementWord.TheVariants as word
use Rattle.ps_model.specs.meaning.Directions.{along, left_of, turned, is_several}
use Rattle.ps_model.specs.names.Names.{Names}
use Rattle.ps_model.specs.rules.SourceRules.{Item, Is, No, SourceRule}
use Rattle.ps_model.specs.meaning.Occurrences.{left_items}
use Rattle.ps_model.specs.meaning.Readings.{Reading, one_of_each, ways, all_member_choices, move_choices}
use Rattle.ps_model.specs.meaning.Readings.{all_move_choices, written_directions, is_direction_free, directions_of}
use Rattle.ps_model.specs.meaning.Readings.{readings_in}
use Rattle.ps_model.specs.meaning.ReadingMeanings.{is_possible, has_possible}
use Rattle.ps_laws.proofs.common.Stages.{length-one_of_each}
use Rattle.ps_laws.proofs.common.Everywhere.{All-always, All-filter_map}
use Rattle.ps_laws.proofs.common.Lists.{any-map, any-flat_map}
use Rattle.ps_readings.specs.TurnsMade.{turn, with_members}
use Rattle.ps_readings.specs.TriedReadings.{of_members, some_is_possible}
use Rattle.ps_readings.specs.Wheels.{taken}
use Rattle.ps_readings.proofs.MotionsAside.{possible_alike}
use Rattle.ps_readings.proofs.Quantified.{any_same, any_constant}

-- moves and directions ------------------------------------------------------------------------------------------------

along_some : (way : Direction) → 0 < length (along way)
along_some direction.Up = omega arith
along_some direction.Down = omega arith
along_some direction.Left = omega arith
along_some direction.Right = omega arith

turned_some : (way : Direction) (several : MovementWord) → 0 < length (turned way several)
turned_some way word.Forwards = omega arith
turned_some way word.Backwards = omega arith
turned_some way word.TurnedLeft = omega arith
turned_some way word.TurnedRight = omega arith
turned_some way word.Parallel = along_some way
turned_some way word.Perpendicular = along_some (left_of way)
turned_some way word.Up = omega arith
turned_some way word.Down = omega arith
turned_some way word.Left = omega arith
turned_some way word.Right = omega arith
turned_some way word.Action = omega arith
turned_some way word.Stationary = omega arith
turned_some way word.Moving = omega arith
turned_some way word.Orthogonal = omega arith
turned_some way word.Horizontal = omega arith
turned_some way word.Vertical = omega arith

if_some : {A : Type 0} (P : A → Type 0) (test : Bool) (x : A) → P x → IfSome (if test then Some x else None) P
if_some P true x p = p
if_some P false x p = tt

abbrev IsFilled : List (ℕ × Motion) → Type 0
IsFilled moves = 0 < length moves

moves_some : (way : Direction) (item : Item) → IfSome (move_choices way item) IsFilled
moves_some way (Is number None meaning) = tt
moves_some way (Is number (Some several) meaning) =
    let choose : Motion → ℕ × Motion = λ motion. (number, motion) in
    if_some IsFilled (is_several several) (map choose (turned way several))
    (omega (arith, length-map (turned way several) choose, turned_some way several))
moves_some way (No meaning) = tt

ways_some : (lists : List (List (ℕ × Motion))) → All IsFilled lists → 0 < ways lists
ways_some [] all = omega arith
ways_some (items ∷ others) all =
    let here : 0 < length items = All-head IsFilled items others all in
    let rest : 0 < ways others = ways_some others (All-tail IsFilled items others all) in
    omega (arith, mul-le 1 1 (length items) (ways others) here rest)

-- there is some choice of moves
move_ways_some : (rule : SourceRule) (way : Direction) → 0 < ways (all_move_choices rule way)
move_ways_some rule way =
    ways_some (all_move_choices rule way)
    (All-filter_map IsFilled (λ (item : Item). ⊤) (move_choices way) (left_items rule) (λ item t.
    moves_some way item) (All-always (λ (item : Item). ⊤) (left_items rule) (λ item. tt)))

written_some : (ways_written : List Direction) → 0 < length (written_directions ways_written)
written_some [] = omega arith
written_some (first ∷ others) = omega arith

front_some : (ways_written : List Direction) → 0 < length ways_written → 0 < length (take 1 ways_written)
front_some [] some = some
front_some (first ∷ others) some = omega arith

either_some : (free : Bool) (first all : List Direction) → 0 < length first → 0 < length all →
    0 < length (if free then first else all)
either_some true first all p q = p
either_some false first all p q = q

-- there is some direction
directions_some : (rule : SourceRule) → 0 < length (directions_of rule)
directions_some rule =
    let written : List Direction = written_directions rule.directions in
    either_some (is_direction_free rule) (take 1 written) written (front_some written (written_some rule.directions))
    (written_some rule.directions)

-- possible readings ---------------------------------------------------------------------------------------------------

module _ (names : Names) (rule : SourceRule) where
  -- of the readings in a direction one is possible where one of the choices of members makes one
  among_moves : (way : Direction) → list_any (is_possible names rule)
      (readings_in (one_of_each (all_member_choices names rule)) rule way)
      ≡ some_is_possible names rule (one_of_each (all_member_choices names rule))
  among_moves way =
      let chosen : List (List (ℕ × ObjectId)) = one_of_each (all_member_choices names rule) in
      any-flat_map (is_possible names rule) (λ moves.
      map (with_members (turn way moves)) chosen) (one_of_each (all_move_choices rule way))
      ∙ any_same _ _ (λ moves. any-map (is_possible names rule) (with_members (turn way moves)) chosen
      ∙ any_same _ _ (λ members. possible_alike names rule (with_members (turn way moves) members) (of_members members)
      refl) chosen) (one_of_each (all_move_choices rule way))
      ∙ any_constant (some_is_possible names rule chosen) (one_of_each (all_move_choices rule way))
      (omega (arith, length-one_of_each (all_move_choices rule way), move_ways_some rule way))

  -- a rule has a possible reading where one of the choices makes one
  pub possible_is : has_possible names rule ≡ some_is_possible names rule (one_of_each (all_member_choices names rule))
  possible_is =
      any-flat_map (is_possible names rule) (readings_in (one_of_each (all_member_choices names rule)) rule)
      (directions_of rule)
      ∙ any_same _ _ among_moves (directions_of rule)
      ∙ any_constant (some_is_possible names rule (one_of_each (all_member_choices names rule))) (directions_of rule)
      (directions_some rule)

  -- trying ------------------------------------------------------------------------------------------------------------

  -- the next choice is tried by a reading that has it
  tried_by : (reading : Reading) (more : Bool) (others all : List (List (ℕ × ObjectId))) →
      all ≡ taken more reading.members others → more ≡ true
      → some_is_possible names rule all ≡ (is_possible names rule reading || some_is_possible names rule others)
  tried_by reading true others all e is =
      ap (some_is_possible names rule) e ∙ ap (λ b.
      b || some_is_possible names rule others) (possible_alike names rule (of_members reading.members) reading refl)
  tried_by reading false others all e is = cc

  -- it makes a possible reading
  pub tried_well : (reading : Reading) (more answer told : Bool) (others all : List (List (ℕ × ObjectId))) →
      all ≡ taken more reading.members others → more ≡ true
      → answer ≡ is_possible names rule reading → answer ≡ true → some_is_possible names rule all ≡ told → true ≡ told
  tried_well reading more answer told others all e is tells well before =
      ap (λ b. b || some_is_possible names rule others) (sym well ∙ tells)
      ∙ sym (tried_by reading more others all e is) ∙ before

  -- it doesn't
  pub tried_ill : (reading : Reading) (more answer told : Bool) (others all : List (List (ℕ × ObjectId))) →
      all ≡ taken more reading.members others → more ≡ true
      → answer ≡ is_possible names rule reading → answer ≡ false → some_is_possible names rule all ≡ told →
      some_is_possible names rule others ≡ told
  tried_ill reading more answer told others all e is tells ill before =
      ap (λ b. b || some_is_possible names rule others) (sym ill ∙ tells) ∙ sym (tried_by reading more others all e is)
      ∙ before

  -- there is none left
  pub none_tried : (members : List (ℕ × ObjectId)) (more told : Bool) (others all : List (List (ℕ × ObjectId))) →
      all ≡ taken more members others → more ≡ false
      → some_is_possible names rule all ≡ told → false ≡ told
  none_tried members true told others all e is before = cc
  none_tried members false told others all e is before = sym (ap (some_is_possible names rule) e) ∙ before
