-- Rules whose words don't stand as they should, worked by hand.
use Rattle.std.proofs.Common.{◌≡◌, [], ◌∷◌, refl, None}
use Rattle.std.specs.Prelude.{codes}
use Rattle.ps_model.specs.declared.faults.FaultKind.TheVariants.{BadBracket, UnknownWord, RowsDiffer, NothingRight}
use Rattle.ps_model.specs.declared.faults.FaultKind.TheVariants.{Ellipsis}
use Rattle.ps_examples.proofs.rules.RuleTexts.{AllTold, told, told_with, fault_at, with_name, one}

-- RU1 -----------------------------------------------------------------------------------------------------------------

-- brackets that don't pair, or nest; they pair on each side of the arrow
unpaired : AllTold (fault_at 2 BadBracket)
    (codes "[ A -> [ B ]" ∷ codes "[ A ] -> [ B" ∷ codes "A ] -> [ B ]" ∷ codes "[ A ] ] -> [ B ]" ∷ codes
    "[ A ] -> ] [ B ]" ∷ codes "[ A ] -> cancel ]"
    ∷ codes "[ A -> B ]" ∷ codes "[ A [ B ] ] -> cancel" ∷ codes "[ A ] -> [[ B ]" ∷ [])
unpaired = refl

-- no arrow, or two; a line that is no loop line and has no arrow has this fault, whatever its words mean
arrows : AllTold (fault_at 2 BadBracket)
    (codes "[ A ]" ∷ codes "[ A ] [ B ]" ∷ codes "[ A ] -> -> [ B ]" ∷ codes "[ A ] -> [ B ] -> [ C ]" ∷ codes
    "Nonsense" ∷ codes "A = B"
    ∷ codes "startloop x" ∷ codes "x startloop" ∷ codes "startloop endloop" ∷ codes "+" ∷ codes "+ startloop" ∷ codes
    "random" ∷ [])
arrows = refl

-- no row on the left
rowless : AllTold (fault_at 2 BadBracket) (codes "-> [ A ]" ∷ codes "-> cancel" ∷ codes "->" ∷ codes "late up -> [ A ]"
    ∷ codes "A -> [ A ]" ∷ [])
rowless = refl

-- a name, a movement word, `no` or an ellipsis outside brackets after the first `[`; a bar outside brackets
outside : AllTold (fault_at 2 BadBracket)
    (codes "[ A ] B -> [ A ]" ∷ codes "[ A ] > [ B ] -> cancel" ∷ codes "[ A ] up [ B ] -> cancel" ∷ codes
    "[ A ] no -> [ A ]" ∷ codes "[ A ] ... [ B ] -> cancel"
    ∷ codes "[ A ] -> B" ∷ codes "[ A ] -> B [ A ]" ∷ codes "[ A ] -> [ A ] orthogonal" ∷ codes
    "[ A ] -> [ A ] cancel B" ∷ codes "[ A ] -> ..."
    ∷ codes "| [ A ] -> [ A ]" ∷ codes "[ A ] | [ B ] -> cancel" ∷ codes "[ A ] -> |" ∷ codes "[ A ] -> [ A ] |" ∷ [])
outside = refl

-- of two faults in one line the first in the order of codes is told
brackets_first : AllTold (fault_at 2 BadBracket) (codes "[ Q ] -> [ Q ] A" ∷ codes "[ Q ] A ->" ∷ codes "Q" ∷ [])
brackets_first = refl

-- `message` after the arrow takes the rest of its line, in brackets too, so that a bracket stays open
message_in_brackets : told (codes "[ A ] -> [ message ]") ≡ fault_at 2 BadBracket
message_in_brackets = refl

-- RU2 -----------------------------------------------------------------------------------------------------------------

-- words that mean nothing
meaningless : AllTold (fault_at 2 UnknownWord)
    (codes "[ Q ] -> [ A ]" ∷ codes "[ A ] -> [ Q ]" ∷ codes "[ no Q ] -> [ A ]" ∷ codes "Q [ A ] -> [ B ]" ∷ codes
    "[ A ] Q -> [ B ]" ∷ codes "[ A ] -> Q"
    ∷ codes "[ A ] -> [ B ] sfx11" ∷ codes "[ A ] -> [ B ] sfx01" ∷ codes "[ A ] -> sfx" ∷ codes
    "[ A | .. | B ] -> cancel" ∷ [])
meaningless = refl

-- before the first `[` only `late` and direction words may stand
before_rows : AllTold (fault_at 2 UnknownWord)
    (codes "A [ A ] -> [ B ]" ∷ codes "> [ A ] -> [ B ]" ∷ codes "v [ A ] -> [ B ]" ∷ codes "moving [ A ] -> [ B ]" ∷
    codes "parallel [ A ] -> [ B ]"
    ∷ codes "action [ A ] -> [ B ]" ∷ codes "stationary [ A ] -> [ B ]" ∷ codes "no [ A ] -> [ B ]" ∷ codes
    "... [ A ] -> [ B ]" ∷ codes "cancel [ A ] -> [ B ]"
    ∷ codes "message [ A ] -> [ B ]" ∷ codes "startloop [ A ] -> [ B ]" ∷ codes "++ [ A ] -> [ B ]" ∷ codes
    "late + [ A ] -> [ B ]" ∷ [])
before_rows = refl

-- after a row of the left, in brackets, and before a row of the right no other key word may stand; on the right
-- commands come last
out_of_place : AllTold (fault_at 2 UnknownWord)
    (codes "[ A ] late -> [ B ]" ∷ codes "[ A ] cancel [ B ] -> cancel" ∷ codes "[ A ] message -> [ B ]" ∷ codes
    "[ A ] + [ B ] -> cancel"
    ∷ codes "[ late A ] -> [ B ]" ∷ codes "[ A cancel ] -> [ B ]" ∷ codes "[ message A ] -> [ B ]" ∷ codes
    "[ A ] -> [ endloop ]" ∷ codes "[ + A ] -> [ B ]"
    ∷ codes "[ A ] -> cancel [ B ]" ∷ codes "[ A ] [ B ] -> [ A ] again [ B ]" ∷ codes "[ A ] -> late" ∷ codes
    "[ A ] -> [ B ] again late" ∷ codes "[ A ] -> startloop" ∷ [])
out_of_place = refl

-- a movement word or `no` needs a name right after it
without_name : AllTold (fault_at 2 UnknownWord)
    (codes "[ > ] -> [ A ]" ∷ codes "[ A > ] -> [ A ]" ∷ codes "[ > | A ] -> cancel" ∷ codes "[ no ] -> [ A ]" ∷ codes
    "[ > no A ] -> [ A ]" ∷ codes "[ no > A ] -> [ A ]"
    ∷ codes "[ >>A ] -> [ A ]" ∷ codes "[ no no A ] -> [ A ]" ∷ codes "[ A ] -> [ up ]" ∷ codes
    "[ A | > ... | B ] -> cancel" ∷ codes "[ A | no ... | B ] -> cancel" ∷ [])
without_name = refl

-- an object that has the name of a key word isn't meant in a rule; `+` is a name but at the start of a line
key_word_wins : told_with (with_name (codes "v") (one 5)) (codes "[ v ] -> [ A ]") ≡ fault_at 2 UnknownWord
key_word_wins = refl

late_wins : told_with (with_name (codes "late") (one 5)) (codes "[ Late ] -> [ A ]") ≡ fault_at 2 UnknownWord
late_wins = refl

rigid_wins : told_with (with_name (codes "sfx10") (one 5)) (codes "[ sfx10 ] -> [ A ]") ≡ fault_at 2 UnknownWord
rigid_wins = refl

other_words : told_with (with_name (codes "on") (one 5)) (codes "[ on ] -> [ On ]") ≡ None
other_words = refl

sound_eleven : told_with (with_name (codes "sfx11") (one 5)) (codes "[ sfx11 ] -> [ sfx11 ]") ≡ None
sound_eleven = refl

plus_as_name : told_with (with_name (codes "+") (one 5)) (codes "[ + ] -> [ > + ]") ≡ None
plus_as_name = refl

plus_behind_row : told_with (with_name (codes "+") (one 5)) (codes "[ A ] + -> [ A ]") ≡ fault_at 2 BadBracket
plus_behind_row = refl

-- RU3 and RU4 ---------------------------------------------------------------------------------------------------------

-- the right has rows, but other ones; an ellipsis counts as a cell
rows_differ : AllTold (fault_at 2 RowsDiffer)
    (codes "[ A | B ] -> [ A ]" ∷ codes "[ A ] -> [ A | B ]" ∷ codes "[ A ] [ B ] -> [ A ]" ∷ codes
    "[ A ] -> [ A ] [ B ]" ∷ codes "[ A ] [ A | B ] -> [ A | B ] [ A ]"
    ∷ codes "[ ] -> [ | ]" ∷ codes "[ A | ... | B ] -> [ A | B ]" ∷ codes "[ A A | B ] -> [ A ] cancel" ∷ [])
rows_differ = refl

nothing_right : AllTold (fault_at 2 NothingRight)
    (codes "[ A ] ->" ∷ codes "late [ A | ] ->" ∷ codes "[ A A ] -> (message)" ∷ [])
nothing_right = refl

-- RU12 ----------------------------------------------------------------------------------------------------------------

ellipses : AllTold (fault_at 2 Ellipsis)
    (codes "[ ... | A ] -> [ ... | A ]" ∷ codes "[ A | ... ] -> [ A | ... ]" ∷ codes "[ ... ] -> cancel" ∷ codes
    "[ A | ... | B ] -> [ A | B | C ]"
    ∷ codes "[ A | B | C ] -> [ A | ... | C ]" ∷ codes "[ A | ... | B | C ] -> [ A | B | ... | C ]" ∷ codes
    "[ A | ... | B | ... | C | ... | A ] -> cancel"
    ∷ codes "[ A | ... | ... | C ] -> cancel" ∷ codes "[ A | ... | ... | C ] -> [ A | ... | ... | C ]" ∷ codes
    "[ A | ... | B | ... ] -> cancel" ∷ codes "[ ... | A | ... | B ] -> cancel"
    ∷ codes "[ A | ... | B | ... | C ] -> [ A | ... | B | A | C ]" ∷ codes "[ A | ... ... | C ] -> cancel" ∷ codes
    "[ A | ... B | C ] -> cancel" ∷ codes "[ A | B ... | C ] -> [ A | ... | C ]" ∷ codes
    "[ A | ... | C ] -> [ A | ... B | C ]"
    ∷ codes "[ A ] [ B | ... ] -> cancel" ∷ codes "[ A | ... | B ] [ C | D | A ] -> [ A | ... | B ] [ C | ... | A ]" ∷
    [])
ellipses = refl

-- without fault -------------------------------------------------------------------------------------------------------

-- words before the rows stand in any order, and again; an empty cell is a cell; sounds are commands; words touch
-- brackets and signs; a row has two ellipses at most
good : AllTold None
    (codes "[ A ] -> [ B ]" ∷ codes "late up LATE up [ A ] -> [ B ]" ∷ codes
    "horizontal down late [ A | B ] -> [ B | A ]" ∷ codes "[] -> []" ∷ codes "[ | ] [] -> [ A | ] []"
    ∷ codes "[ A ] -> cancel" ∷ codes "[ A ] -> sfx0" ∷ codes "[ A ] -> [ ] cancel again SFX10 message Hi -> [" ∷ codes
    "[ A ] -> message" ∷ codes "[ A ] -> message(a) b"
    ∷ codes "[>Player|*]->[>Player|>*]again" ∷ codes "[ A | ... | B ] -> cancel" ∷ codes
    "[ A | ... | B ] [ A | ... | B ] -> [ | ... | ] [ B | ... | ]"
    ∷ codes "[ A | ... | B | ... | C ] -> cancel" ∷ codes
    "[ A | ... | B | B | ... | ] [ A | ... | B ] -> [ B | ... | | A | ... | C ] [ | ... | ]"
    ∷ codes "[ A (B] ] C) ] -> (->) [ B ]" ∷ codes "startloop\nENDLOOP" ∷ codes
    "startloop\n\n[ A ] -> [ B ]\n  \n=====\nendloop (x)" ∷ [] ∷ [])
good = refl
