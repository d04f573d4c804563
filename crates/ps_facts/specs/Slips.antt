-- What may be wrong with a word of a line, by the words before it and after it.
use Rattle.std.specs.Prelude.{ℕ, ◌%◌, nat_eq, Bool, true, false, ◌&&◌, ◌||◌, not, List, [], ◌∷◌, drop, length}
use Rattle.ps_model.specs.declared.texts.Section.{Section}
use Rattle.ps_model.specs.declared.texts.Section.TheVariants.{Prelude, Objects, Legend, Layers, Rules, Wins}
use Rattle.ps_model.specs.declared.texts.Section.TheVariants.{Levels}
use Rattle.ps_facts.specs.declared.signs.Sign.{Sign}
use Rattle.ps_facts.specs.declared.signs.Sign.TheVariants as sign
use Rattle.ps_facts.specs.declared.slips.ShapeSlip.{ShapeSlip}
use Rattle.ps_facts.specs.declared.slips.ShapeSlip.TheVariants.{LikeArrow, LikeBracket, NoArrow, SecondArrow}
use Rattle.ps_facts.specs.declared.slips.ShapeSlip.TheVariants.{Nested, Unclosed}
use Rattle.ps_facts.specs.declared.slips.ShapeSlip.TheVariants.{LoneClosing, NothingLeft, NothingRight, BarOutside}
use Rattle.ps_facts.specs.declared.slips.ShapeSlip.TheVariants.{DirectionOutside, WordOutside, LongArrow, NoCells}
use Rattle.ps_facts.specs.declared.slips.RuleSlip.{RuleSlip}
use Rattle.ps_facts.specs.declared.slips.RuleSlip.TheVariants.{LoopWords, MessageAlone, LateMove, Chance}
use Rattle.ps_facts.specs.declared.slips.RuleSlip.TheVariants.{Rigid}
use Rattle.ps_facts.specs.declared.slips.RuleSlip.TheVariants.{TwiceInCell, RuleComment, LikeLoop, WinLine}
use Rattle.ps_facts.specs.declared.slips.RuleSlip.TheVariants.{FirstEllipsis, LastEllipsis, EllipsisBeside}
use Rattle.ps_facts.specs.declared.slips.RuleSlip.TheVariants.{EllipsisAgain}
use Rattle.ps_facts.specs.declared.slips.PlaceSlip.{PlaceSlip}
use Rattle.ps_facts.specs.declared.slips.PlaceSlip.TheVariants.{Ahead, CommandInCell, KeyWordInCell, Nameless}
use Rattle.ps_facts.specs.declared.slips.PlaceSlip.TheVariants.{OutsideLeft, BeforeRow, NoCommand}
use Rattle.ps_facts.specs.declared.slips.FormSlip.{FormSlip}
use Rattle.ps_facts.specs.declared.slips.FormSlip.TheVariants.{NoEquals, NoJoiner, EqualsAsName, LegendEnds}
use Rattle.ps_facts.specs.declared.slips.FormSlip.TheVariants.{NoQuantifier}
use Rattle.ps_facts.specs.declared.slips.FormSlip.TheVariants.{NoOn, FurtherWord, WinEnds, SecondName, ThirdName}
use Rattle.ps_facts.specs.declared.slips.FormSlip.TheVariants.{NameAgain, RealTime, WinComment}
use Rattle.ps_facts.specs.declared.slips.FormSlip.TheVariants.{RoomSize, NoRoomSize, LikeMessage, LegendLine}
use Rattle.ps_facts.specs.declared.slips.FormSlip.TheVariants.{Caption, RuleLine}
use Rattle.ps_facts.specs.declared.slips.Slip.{Slip}
use Rattle.ps_facts.specs.declared.slips.Slip.TheVariants.{Shape, Rule, Place, Form}
use Rattle.ps_facts.specs.Places.{is_inside, comes_first, is_in_cell, parts_cells, ends_in, ends_parted}
use Rattle.ps_facts.specs.Signs.{is_sign, has_sign, is_edge, is_direction, is_movement, is_quantifier, is_by_chance}
use Rattle.ps_facts.specs.Signs.{is_any, is_command, begins_comment, begins_row}

-- the section whose lines have the slip
abbrev pub section_of : Slip → Section
section_of (Shape slip) = Rules
section_of (Rule slip) = Rules
section_of (Place slip) = Rules
section_of (Form NoEquals) = Legend
section_of (Form NoJoiner) = Legend
section_of (Form EqualsAsName) = Legend
section_of (Form LegendEnds) = Legend
section_of (Form NoQuantifier) = Wins
section_of (Form NoOn) = Wins
section_of (Form FurtherWord) = Wins
section_of (Form WinEnds) = Wins
section_of (Form WinComment) = Wins
section_of (Form SecondName) = Objects
section_of (Form ThirdName) = Objects
section_of (Form NameAgain) = Objects
section_of (Form LegendLine) = Objects
section_of (Form RealTime) = Prelude
section_of (Form RoomSize) = Prelude
section_of (Form NoRoomSize) = Prelude
section_of (Form LikeMessage) = Levels
section_of (Form Caption) = Levels
section_of (Form RuleLine) = Layers

-- there are `count` words
abbrev pub are_so_many : ℕ → List (List ℕ) → Bool
are_so_many count words = nat_eq (length words) count

-- the number of words is odd
abbrev pub are_odd : List (List ℕ) → Bool
are_odd words = nat_eq (length words % 2) 1

-- a line of these words lacks the sign
abbrev pub lacks : Sign → List (List ℕ) → List ℕ → List (List ℕ) → Bool
lacks sign before word behind = not (has_sign sign before) && (not (is_sign sign word) && not (has_sign sign behind))

-- the first of the words is that sign
abbrev pub begins_with : Sign → List (List ℕ) → Bool
begins_with sign [] = false
begins_with sign (word ∷ words) = is_sign sign word

-- the first of the words parts cells, if there is one
abbrev pub begins_parted : List (List ℕ) → Bool
begins_parted [] = true
begins_parted (word ∷ words) = parts_cells word

-- what is wrong with brackets, bars and arrow
abbrev pub has_shape_slip : ShapeSlip → List (List ℕ) → List ℕ → List (List ℕ) → Bool
has_shape_slip LikeArrow before word behind = lacks sign.Arrow before word behind
has_shape_slip LongArrow before word behind = not (is_edge word) && begins_with sign.Arrow behind
has_shape_slip LikeBracket before word behind = not (is_edge word)
has_shape_slip NoArrow before word behind = lacks sign.Arrow before word behind && are_so_many 0 behind
has_shape_slip SecondArrow before word behind = is_sign sign.Arrow word && has_sign sign.Arrow before
has_shape_slip Nested before word behind = is_sign sign.Opening word && comes_first sign.Opening behind
has_shape_slip Unclosed before word behind =
    is_sign sign.Opening word && (not (comes_first sign.Opening behind) && not (comes_first sign.Closing behind))
has_shape_slip LoneClosing before word behind = is_sign sign.Closing word && not (is_inside before)
has_shape_slip NothingLeft before word behind = is_sign sign.Arrow word && not (has_sign sign.Opening before)
has_shape_slip NothingRight before word behind = is_sign sign.Arrow word && are_so_many 0 behind
has_shape_slip NoCells before word behind =
    is_sign sign.Arrow word && (are_so_many 0 before && are_so_many 0 behind)
has_shape_slip BarOutside before word behind = is_sign sign.Bar word && not (is_inside before)
has_shape_slip DirectionOutside before word behind =
    is_direction word && (has_sign sign.Arrow before && not (is_inside before))
has_shape_slip WordOutside before word behind =
    not (is_edge word) && (has_sign sign.Opening before && not (is_inside before))

-- the word begins or ends a loop
abbrev pub is_loop_word : List ℕ → Bool
is_loop_word word = is_sign sign.LoopStart word || is_sign sign.LoopEnd word

-- what is wrong with other words of a rule
abbrev pub has_rule_slip : RuleSlip → List (List ℕ) → List ℕ → List (List ℕ) → Bool
has_rule_slip LoopWords before word behind = is_loop_word word && not (are_so_many 0 behind)
has_rule_slip MessageAlone before word behind = is_sign sign.Message word && lacks sign.Arrow before word behind
has_rule_slip LateMove before word behind = is_movement word && (has_sign sign.Late before && is_inside before)
has_rule_slip Chance before word behind = is_by_chance word
has_rule_slip Rigid before word behind = is_sign sign.Rigid word
has_rule_slip TwiceInCell before word behind = is_in_cell word before && is_inside before
has_rule_slip RuleComment before word behind = are_so_many 0 before && begins_comment word
has_rule_slip LikeLoop before word behind =
    are_so_many 0 before && (not (is_loop_word word) && lacks sign.Arrow before word behind)
has_rule_slip WinLine before word behind =
    are_so_many 0 before && (is_quantifier word && (lacks sign.Arrow before word behind &&
    lacks sign.Opening before word behind))
has_rule_slip FirstEllipsis before word behind = is_sign sign.Ellipsis word && ends_in sign.Opening before
has_rule_slip LastEllipsis before word behind = is_sign sign.Ellipsis word && begins_with sign.Closing behind
has_rule_slip EllipsisBeside before word behind =
    is_sign sign.Ellipsis word && not (ends_parted before && begins_parted behind)
has_rule_slip EllipsisAgain before word behind =
    is_sign sign.Ellipsis word && (begins_with sign.Bar behind && begins_with sign.Ellipsis (drop 1 behind))

-- among these words, which stand after a movement word or `no`, no name comes first
abbrev pub begins_nameless : List (List ℕ) → Bool
begins_nameless [] = true
begins_nameless (word ∷ words) =
    parts_cells word || (is_movement word || (is_sign sign.Without word || is_sign sign.Ellipsis word))

-- the word asks for a name right after it
abbrev pub asks_for_name : List ℕ → Bool
asks_for_name word = is_movement word || is_sign sign.Without word

-- the word is a key word that stands outside brackets alone, and no command
abbrev pub is_outer : List ℕ → Bool
is_outer word = is_sign sign.Late word || is_loop_word word

-- a word stands outside brackets, and is none itself, nor the arrow
abbrev pub is_outside : List (List ℕ) → List ℕ → Bool
is_outside before word = not (is_edge word) && not (is_inside before)

-- where the word stands
abbrev pub has_place_slip : PlaceSlip → List (List ℕ) → List ℕ → List (List ℕ) → Bool
has_place_slip Ahead before word behind =
    not (has_sign sign.Opening before) && (not (is_edge word) && not (is_sign sign.Late word || is_direction word))
has_place_slip CommandInCell before word behind = is_command word && is_inside before
has_place_slip KeyWordInCell before word behind = is_outer word && is_inside before
has_place_slip Nameless before word behind = asks_for_name word && (is_inside before && begins_nameless behind)
has_place_slip OutsideLeft before word behind =
    is_outside before word && (has_sign sign.Opening before && has_sign sign.Arrow behind)
has_place_slip BeforeRow before word behind =
    is_outside before word && (has_sign sign.Arrow before && has_sign sign.Opening behind)
has_place_slip NoCommand before word behind =
    is_outside before word && (has_sign sign.Arrow before && (not (has_sign sign.Opening behind) &&
    not (is_command word)))

-- what is wrong with a word of another section's line
abbrev pub has_form_slip : FormSlip → List (List ℕ) → List ℕ → List (List ℕ) → Bool
has_form_slip NoEquals before word behind = are_so_many 1 before && not (is_sign sign.Equals word)
has_form_slip NoJoiner before word behind =
    (are_odd before && not (are_so_many 1 before)) && not (is_sign sign.And word || is_sign sign.Or word)
has_form_slip EqualsAsName before word behind = is_sign sign.Equals word && not (are_odd before)
has_form_slip LegendEnds before word behind = are_so_many 0 behind && (are_so_many 0 before || are_odd before)
has_form_slip NoQuantifier before word behind = are_so_many 0 before && not (is_quantifier word)
has_form_slip NoOn before word behind = are_so_many 2 before && not (is_sign sign.On word)
has_form_slip FurtherWord before word behind = are_so_many 4 before
has_form_slip WinEnds before word behind = are_so_many 0 behind && (are_so_many 0 before || are_so_many 2 before)
has_form_slip SecondName before word behind = are_so_many 1 before
has_form_slip ThirdName before word behind = are_so_many 2 before
has_form_slip NameAgain before word behind = is_any before word
has_form_slip LegendLine before word behind = are_so_many 1 before && is_sign sign.Equals word
has_form_slip RealTime before word behind = are_so_many 0 before && is_sign sign.RealTime word
has_form_slip WinComment before word behind = are_so_many 0 before && begins_comment word
has_form_slip RoomSize before word behind = are_so_many 1 before && has_sign sign.Rooms before
has_form_slip NoRoomSize before word behind = are_so_many 0 behind && is_sign sign.Rooms word
has_form_slip LikeMessage before word behind = are_so_many 0 before && not (is_sign sign.Message word)
has_form_slip Caption before word behind =
    are_so_many 0 before && (not (is_sign sign.Message word) && not (are_so_many 0 behind))
has_form_slip RuleLine before word behind = begins_row word

-- what is wrong with a word, with these words before it and after it in its line
abbrev pub has_slip : Slip → List (List ℕ) → List ℕ → List (List ℕ) → Bool
has_slip (Shape slip) before word behind = has_shape_slip slip before word behind
has_slip (Rule slip) before word behind = has_rule_slip slip before word behind
has_slip (Place slip) before word behind = has_place_slip slip before word behind
has_slip (Form slip) before word behind = has_form_slip slip before word behind
