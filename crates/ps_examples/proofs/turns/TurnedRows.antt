-- Rules turned round, worked by hand: rows read from their other ends, their places, and attempts both ways.
use Rattle.std.proofs.Common.{◌≡◌, true, List, [], ◌∷◌, map, reverse, refl, ap}
use Rattle.ps_model.specs.declared.pieces.Direction.TheVariants.{Up, Down, Left, Right}
use Rattle.ps_model.specs.declared.pieces.Slot.{Slot}
use Rattle.ps_model.specs.meaning.Directions.{opposite}
use Rattle.ps_model.specs.meaning.RuleMeanings.{CellMeaning, RuleMeaning}
use Rattle.ps_model.specs.board.Places.{places}
use Rattle.ps_model.specs.board.Attempts.{State, Result, attempt}
use Rattle.ps_model.specs.meaning.TurnedRound.{row_turned, turned_round, forwards}
use Rattle.ps_examples.proofs.turns.SmallBoards.{holding, bare, becomes, rule_to, across, upright, before}

-- rows ----------------------------------------------------------------------------------------------------------------

-- [ a | ... | b | c ] from its other end is [ c | b | ... | a ]
row_from_other_end : (a b c : CellMeaning) → row_turned ((a ∷ []) ∷ (b ∷ c ∷ []) ∷ []) ≡ (c ∷ b ∷ []) ∷ (a ∷ []) ∷ []
row_from_other_end a b c = refl

-- a rule and a board after it ----------------------------------------------------------------------------------------

-- [ 1 | ... | 2 | 3 ] -> [ 4 | ... | 5 | 6 ]
abbrev row : List (List CellMeaning)
row = (becomes 1 4 ∷ []) ∷ (becomes 2 5 ∷ becomes 3 6 ∷ []) ∷ []

-- 6 5 . 4 1 .
abbrev behind : List (List Slot)
behind = holding 6 ∷ holding 5 ∷ bare ∷ holding 4 ∷ holding 1 ∷ bare ∷ []

-- places --------------------------------------------------------------------------------------------------------------

-- leftwards and turned round: the same lists backwards, the nearer 1 first; and so upwards
places_leftwards : places (across before).grid Left row ≡ (3 ∷ 1 ∷ 0 ∷ []) ∷ (4 ∷ 1 ∷ 0 ∷ []) ∷ []
places_leftwards = refl

places_rightwards : places (across before).grid Right (row_turned row) ≡ (0 ∷ 1 ∷ 3 ∷ []) ∷ (0 ∷ 1 ∷ 4 ∷ []) ∷ []
places_rightwards = refl

places_upwards : places (upright before).grid Up row ≡ (3 ∷ 1 ∷ 0 ∷ []) ∷ (4 ∷ 1 ∷ 0 ∷ []) ∷ []
places_upwards = refl

places_downwards : places (upright before).grid Down (row_turned row) ≡ (0 ∷ 1 ∷ 3 ∷ []) ∷ (0 ∷ 1 ∷ 4 ∷ []) ∷ []
places_downwards = refl

-- with its parts alone in reverse order, and not the cells in them, the row has no place
parts_alone : places (across before).grid Right ((becomes 2 5 ∷ becomes 3 6 ∷ []) ∷ (becomes 1 4 ∷ []) ∷ []) ≡ []
parts_alone = refl

-- and so with the cells of its parts alone
cells_alone : places (across before).grid Right (map reverse row) ≡ []
cells_alone = refl

-- attempts ------------------------------------------------------------------------------------------------------------

-- leftwards, and the rule that faces right
attempt_leftwards : attempt (rule_to Left (row ∷ [])) (across before) ≡ record { state = across behind; changed = true }
attempt_leftwards = refl

attempt_rightwards : attempt (forwards (rule_to Left (row ∷ []))) (across before) ≡ record {
  state =
      across behind;
  changed = true;
}
attempt_rightwards = refl

faces_right : (forwards (rule_to Left (row ∷ []))).direction ≡ Right
faces_right = refl

-- upwards, and the rule that faces down
attempt_upwards : attempt (rule_to Up (row ∷ [])) (upright before) ≡ record { state = upright behind; changed = true }
attempt_upwards = refl

attempt_downwards : attempt (forwards (rule_to Up (row ∷ []))) (upright before) ≡ record {
  state =
      upright behind;
  changed = true;
}
attempt_downwards = refl

faces_down : (forwards (rule_to Up (row ∷ []))).direction ≡ Down
faces_down = refl

-- two rows: the first combination, in which they meet in a cell, takes the 3 from the others; what the second row made
-- stands
abbrev two_rows : List (List (List CellMeaning))
two_rows = ((becomes 1 4 ∷ []) ∷ (becomes 3 6 ∷ []) ∷ []) ∷ ((becomes 1 5 ∷ []) ∷ []) ∷ []

attempt_of_two_rows : attempt (rule_to Left two_rows) (across before) ≡ record {
  state =
      across (holding 6 ∷ holding 2 ∷ bare ∷ holding 5 ∷ holding 1 ∷ bare ∷ []);
  changed = true;
}
attempt_of_two_rows = refl

attempt_of_two_turned : attempt (forwards (rule_to Left two_rows)) (across before) ≡ record {
  state =
      across (holding 6 ∷ holding 2 ∷ bare ∷ holding 5 ∷ holding 1 ∷ bare ∷ []);
  changed = true;
}
attempt_of_two_turned = refl

-- rules that face down or right already stay as they are
down_stays : (rows : List (List (List CellMeaning))) → forwards (rule_to Down rows) ≡ rule_to Down rows
down_stays rows = refl

right_stays : (rows : List (List (List CellMeaning))) → forwards (rule_to Right rows) ≡ rule_to Right rows
right_stays rows = refl

-- and may be turned round too
turned_rightwards : attempt (turned_round (rule_to Right (row_turned row ∷ []))) (across before) ≡ record {
  state =
      across behind;
  changed = true;
}
turned_rightwards = refl

-- with the parts alone in reverse order, and not the cells in them, it isn't so that attempts come to the same
parts_alone_differ : ((rule : RuleMeaning) (state : State) →
    attempt (record rule { direction = opposite rule.direction; rows = map reverse rule.rows }) state ≡ attempt rule
    state) → ⊥
parts_alone_differ law = cc (ap (λ (result : Result). result.changed) (law (rule_to Left (row ∷ [])) (across before)))
