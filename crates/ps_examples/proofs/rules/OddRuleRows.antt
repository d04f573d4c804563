-- Odd rules in whole texts, worked by hand: what is said about them first, and at which line; or what they do.
use Rattle.std.proofs.Common.{◌≡◌, ℕ, List, [], ◌∷◌, ◌++◌, map, refl, Option, Some, None}
use Rattle.std.specs.Prelude.{codes, replicate}
use Rattle.std.specs.List.{flat_map}
use Rattle.std.specs.Str.{chars, is_utf8}
use Rattle.std.specs.Str.Lossy.{utf8_valid_len}
use Rattle.std.specs.Fmt.{digits}
use Rattle.std.proofs.Math.Utf8.{encode}
use Rattle.ps_model.specs.board.Turns.{turn}
use Rattle.ps_model.specs.game.Outputs.{opening_step}
use Rattle.ps_model.specs.board.Programs.{group, program_run}
use Rattle.ps_model.specs.session.StartSteps.{all_start_turns}
use Rattle.ps_model.specs.session.KeySteps.{all_key_turns}
use Rattle.ps_model.specs.declared.faults.Fault.{Fault}
use Rattle.ps_model.specs.declared.faults.FaultKind.{FaultKind}
use Rattle.ps_model.specs.declared.faults.FaultKind.TheVariants as kind
use Rattle.ps_examples.proofs.games.BaseText.{base_game}
use Rattle.ps_examples.proofs.games.WholeRuns.{written, refused}

-- a fault at a line
abbrev at_line : ℕ → FaultKind → Option Fault
at_line line kind = Some (record { kind = kind; line = line })

-- what is said about the base text with these lines of RULES, the first of which is line 30
abbrev told : List ℕ → Option Fault
told rules = refused (base_game (rules ++ codes "\n") [] (codes "P\n"))

-- all these rules have the same answer
abbrev AllTold : Option Fault → List (List ℕ) → Type 0
AllTold fault rules = map told rules ≡ map (λ rule. fault) rules

-- what is said about these lines of RULES, the first of which is line 30, below a legend of synonyms, properties and
-- aggregates: A and B lie on one layer, C and D on one each
abbrev told_with_legend : List ℕ → Option Fault
told_with_legend rules =
    refused (codes "OBJECTS\nBackground .\nx\nPlayer P\nx\nA\nx\nB\nx\nC\nx\nD\nx\nLEGEND\nT = s\nS = Q\nQ = A or C\nR = A or C\nZ = G\nG = A and C\nH = C and D\nAA = A\nCOLLISIONLAYERS\nBackground\nPlayer\nA B\nC\nD\nRULES\n"
    ++ (rules ++ codes "\nLEVELS\nP\n"))

abbrev AllToldWithLegend : Option Fault → List (List ℕ) → Type 0
AllToldWithLegend fault rules = map told_with_legend rules ≡ map (λ rule. fault) rules

-- words ---------------------------------------------------------------------------------------------------------------

-- signs are cut off at the start of a word alone, `v` and key words of letters nowhere; an ellipsis has three points,
-- and blanks or bars beside it
glued_words : AllTold (at_line 30 kind.UnknownWord)
    (codes "[ vA ] -> [ A ]" ∷ codes "[ A> ] -> [ A ]" ∷ codes "[ A<B ] -> cancel" ∷ codes "[ A | ...B | C ] -> cancel"
    ∷ codes "[ A | .... | B ] -> cancel" ∷ codes "[ noA ] -> cancel"
    ∷ codes "[ A, B ] -> cancel" ∷ codes "lateup [ A ] -> cancel" ∷ codes "[ A ] -> cancel," ∷ codes "[ A ] -> again+"
    ∷ [])
unfolding chars is_utf8 encode utf8_valid_len
glued_words = refl

-- an arrow is in one piece
split_arrows : AllTold (at_line 30 kind.BadBracket)
    (codes "[ A ] - > [ B ]" ∷ codes "[ A ] -(x)> [ B ]" ∷ codes "[ A ] => [ B ]" ∷ codes "[ A ] >- [ B ]" ∷ codes
    "[ A ] (->) [ B ]" ∷ [])
unfolding chars is_utf8 encode utf8_valid_len
split_arrows = refl

-- the shortest of rules, blanks aside
no_blanks : AllTold None (codes "late[A]->[B]" ∷ codes "right left[^A|v B]->[<A|>B]again" ∷ codes "[]->sfx0" ∷ codes
    "[A|...|B]->[|...|]" ∷ codes "[A]->cancel cancel CANCEL" ∷ codes "[\tA ]\t->[]\r" ∷ [])
unfolding chars is_utf8 encode utf8_valid_len
no_blanks = refl

-- a key word that an object has as its name is a name in all sections but RULES
key_word_as_name : map (λ rule. refused (codes
    "OBJECTS\nBackground .\nx\nPlayer P\nx\nLate v\nx\nCOLLISIONLAYERS\nBackground\nPlayer\nLATE\nRULES\n" ++
    (rule ++ codes "\nWINCONDITIONS\nNo late on v\nLEVELS\nPv\n")))
    ([] ∷ codes "late [ Player ] -> win" ∷ codes "[ v Player ] -> win" ∷ codes "[ v ] -> win" ∷ codes "[ Late ] -> win"
    ∷ codes "[ no late ] -> win" ∷ codes "[ no v ] -> win" ∷ [])
    ≡ None ∷ None ∷ None ∷ at_line 13 kind.UnknownWord ∷ at_line 13 kind.UnknownWord ∷ at_line 13 kind.UnknownWord ∷
    at_line 13 kind.UnknownWord ∷ []
unfolding chars is_utf8 encode utf8_valid_len
key_word_as_name = refl

-- several causes in one line ------------------------------------------------------------------------------------------

-- of each of these rules two or more things are wrong, and the one that comes first in the order of codes is told
first_of_several : map told
    (codes "[ random A -> [ B ]" ∷ codes "+ late [ Q ... | A A ] -> [ > no @ ] again [ A ]" ∷ codes
    "[ A A | ... ] -> [ no @ ]" ∷ codes "late [ > A A | ... ] ->" ∷ codes "[ A A no @ ] -> [ AT ]"
    ∷ codes "late [ no @ ] -> [ moving AT ]" ∷ codes "late [ A ] -> [ moving A ]" ∷ codes
    "+ late [ > A | ... ] -> cancel" ∷ codes "+ [ ... ] -> cancel rigid" ∷ codes "random [ A | ... ] -> cancel"
    ∷ codes "rigid [ Player Wall ] -> cancel" ∷ [])
    ≡ at_line 30 kind.BadBracket ∷ at_line 30 kind.UnknownWord ∷ at_line 30 kind.RowsDiffer ∷ at_line 30
    kind.NothingRight ∷ at_line 30 kind.NameTwice
    ∷ at_line 30 kind.NoAggregate ∷ at_line 30 kind.Unbound ∷ at_line 30 kind.LateMove ∷ at_line 30 kind.PlusAlone ∷
    at_line 30 kind.Ellipsis
    ∷ at_line 30 kind.NotInProfile ∷ []
unfolding chars is_utf8 encode utf8_valid_len
first_of_several = refl

-- what stands on the right of an ellipsis, or beside it, is looked at as in other cells, and told before the ellipsis
-- itself
beside_ellipses : map told
    (codes "[ A | ... | B ] -> [ A | C C | B ]" ∷ codes "[ A | ... | B ] -> [ A | ... C C | B ]" ∷ codes
    "[ A | no @ | B ] -> [ A | ... | B ]" ∷ codes "[ A | ... | B ] -> [ A | ... AT | B ]"
    ∷ codes "late [ A | ... > C | B ] -> cancel" ∷ codes "[ A | ... AT | B ] -> [ A | ... AT | B ]" ∷ codes
    "[ A | ... | B ] -> [ A | ... | ... ]" ∷ [])
    ≡ at_line 30 kind.NameTwice ∷ at_line 30 kind.NameTwice ∷ at_line 30 kind.NoAggregate ∷ at_line 30 kind.Unbound
    ∷ at_line 30 kind.LateMove ∷ at_line 30 kind.Ellipsis ∷ at_line 30 kind.Ellipsis ∷ []
unfolding chars is_utf8 encode utf8_valid_len
beside_ellipses = refl

-- the first line with a fault is told, whatever the faults of lines below
first_line : map told
    (codes "[ A ] -> [ B ] rigid\n[ A" ∷ codes "[ A ] -> [ B ]\nendloop\n[ Q ] -> cancel" ∷ codes
    "startloop\n[ A ] -> [ B ]\n+ late [ A ] -> [ B ]" ∷ codes "startloop\nrigid [ A ] -> [ B ]"
    ∷ codes "[ Player Wall ] -> cancel\n\nstartloop (x\n) endloop x" ∷ codes
    "startloop\nendloop\n+ [ A ] -> cancel\nendloop" ∷ [])
    ≡ at_line 30 kind.NotInProfile ∷ at_line 31 kind.Loop ∷ at_line 32 kind.PlusLate ∷ at_line 31 kind.NotInProfile
    ∷ at_line 33 kind.BadBracket ∷ at_line 32 kind.PlusAlone ∷ []
unfolding chars is_utf8 encode utf8_valid_len
first_line = refl

-- groups and loops ----------------------------------------------------------------------------------------------------

-- a word that is left out beside a loop's word is told after the loop's own faults
left_out_loops : map told (codes "rigid endloop" ∷ codes "startloop\nrandom startloop\nendloop" ∷ codes
    "startloop\nrandom endloop" ∷ codes "rigid random" ∷ [])
    ≡ at_line 30 kind.Loop ∷ at_line 31 kind.Loop ∷ at_line 31 kind.NotInProfile ∷ at_line 30 kind.BadBracket ∷ []
unfolding chars is_utf8 encode utf8_valid_len
left_out_loops = refl

-- `+` joins the rule right before, which is late where it is; one that is cut off after `random` isn't at the start of
-- its line
joined_rules : map told
    (codes "late [ A ] -> [ B ]\n+ late [ B ] -> [ A ]\n+ [ A ] -> [ B ]" ∷ codes
    "[ A ] -> [ B ]\nlate [ A ] -> [ B ]\n+ late [ B ] -> [ C ]\n[ A ] -> [ B ]\n+[ B ] -> [ A ]"
    ∷ codes "[ A ] -> [ B ]\nrandom + [ B ] -> [ A ]" ∷ codes "[ A ] -> [ B ]\n+\n[ A ] -> [ B ]" ∷ codes
    "[ A ] -> [ B ]\n+ + [ B ] -> [ A ]" ∷ codes "[ A ] -> [ B ]\nlate + late [ B ] -> [ A ]" ∷ [])
    ≡ at_line 32 kind.PlusLate ∷ None ∷ at_line 31 kind.UnknownWord ∷ at_line 31 kind.BadBracket ∷ at_line 31
    kind.UnknownWord ∷ at_line 31 kind.UnknownWord ∷ []
unfolding chars is_utf8 encode utf8_valid_len
joined_rules = refl

-- a `+` after a comment that begins above stands at the start of its line: the three rules are one group, which ends
-- at C after an even number of rounds, and would end at B as three groups
joined_behind_comment : written (base_game (codes "[ C ] -> [ A ] (x\n\n) + [ B ] -> [ C ]\n\n(y)+[ A ] -> [ B ]\n") []
    (codes "A\n")) (codes "x")
    ≡ Some (codes "= T\n# level 1\nA\n\nC\n\n* end of keys\n")
unfolding chars digits is_utf8 utf8_valid_len encode group program_run all_start_turns all_key_turns turn opening_step
joined_behind_comment = refl

-- messages ------------------------------------------------------------------------------------------------------------

-- the text of a message has whatever follows, up to the end of its line; commands before it count, and no comment goes
-- on below it
message_to_the_end : written (base_game (codes
    "[ A ] (message) -> [ B ] win Message(x -> y ]  \n+ [ B ] -> [ C ] (z\n)\n") [] (codes "PA\n")) (codes "xx")
    ≡ Some (codes "= T\n# level 1\nPA\n\nPC\n\n! (x -> y ]\n* level 1 done\n* the end\n")
unfolding chars digits is_utf8 utf8_valid_len encode group program_run all_start_turns all_key_turns turn opening_step
message_to_the_end = refl

-- without an arrow before it, and on the left of the arrow, `message` is a key word where it can't stand; a comment may
-- begin after it
message_without_arrow : map told
    (codes "[ A ] -> message (\n[ Q ] -> cancel" ∷ codes "[ A ] message (\n[ Q ] ) -> cancel" ∷ codes
    "message ( [ A ] -> )[ A ] -> [ Q ]" ∷ codes "message [ A ] -> [ B ]" ∷ codes "[ A ] -> [ B ] messages x" ∷ [])
    ≡ at_line 31 kind.UnknownWord ∷ at_line 30 kind.BadBracket ∷ at_line 30 kind.UnknownWord ∷ at_line 30
    kind.UnknownWord ∷ at_line 30 kind.UnknownWord ∷ []
unfolding chars is_utf8 encode utf8_valid_len
message_without_arrow = refl

-- names ---------------------------------------------------------------------------------------------------------------

-- a synonym of a synonym of a property is that property, aggregates that share an object name it twice
twice_by_legend : AllToldWithLegend (at_line 30 kind.NameTwice)
    (codes "[ Q T ] -> cancel" ∷ codes "[ G H ] -> cancel" ∷ codes "[ z G ] -> cancel" ∷ codes
    "[ > AA | < A AA ] -> cancel" ∷ codes "[ B | C D H ] -> cancel" ∷ codes "[ Q ] -> [ S no A T ]" ∷ [])
unfolding chars is_utf8 encode utf8_valid_len
twice_by_legend = refl

-- two properties of the same objects aren't one; a property and one of its members, or an aggregate that has one, may
-- be possible
once_by_legend : AllToldWithLegend None (codes "[ Q R ] -> cancel" ∷ codes "[ Q A ] -> cancel" ∷ codes
    "[ T no S ] -> cancel" ∷ codes "[ G | H ] -> [ H | G ]" ∷ codes "[ Q D no AA ] -> [ S no aa ]" ∷ [])
unfolding chars is_utf8 encode utf8_valid_len
once_by_legend = refl

-- `no` doesn't stand before a synonym of an aggregate either, on neither side
no_before_synonym : AllToldWithLegend (at_line 30 kind.NoAggregate)
    (codes "[ no Z ] -> cancel" ∷ codes "[ A no h | B ] -> [ | ]" ∷ codes "[ A | B ] -> [ | A no z ]" ∷ [])
unfolding chars is_utf8 encode utf8_valid_len
no_before_synonym = refl

-- what decides a property of the right may be another name of it; two occurrences of it in other cells decide nothing;
-- a word is decided in its own cell by the same object, whatever its name there
unbound_by_legend : AllToldWithLegend (at_line 30 kind.Unbound)
    (codes "[ Q ] -> [ R ]" ∷ codes "[ Q | T | ] -> [ | | S ]" ∷ codes "[ no Q ] -> [ T ]" ∷ codes
    "[ moving A | moving B ] -> [ | moving AA ]" ∷ codes "[ moving Q ] -> [ orthogonal Q ]"
    ∷ codes "[ parallel A ] -> [ horizontal A ]" ∷ codes "[ moving A | moving C ] -> [ A | moving Q ]" ∷ [])
unfolding chars is_utf8 encode utf8_valid_len
unbound_by_legend = refl

-- one occurrence on the left decides it wherever it stands, and so does the one in its own cell
bound_by_legend : AllToldWithLegend None
    (codes "[ S | ] -> [ | T ]" ∷ codes "[ Q | T ] -> [ S | Q ]" ∷ codes "[ moving A | moving B ] -> [ moving AA | ]" ∷
    codes "[ Moving A ] -> [ MOVING C ]" ∷ codes "[ > Q | moving B ] -> [ moving T | ]"
    ∷ codes "[ moving S | D ] -> [ | moving T ]" ∷ codes "[ moving Z ] -> [ moving G ]" ∷ [])
unfolding chars is_utf8 encode utf8_valid_len
bound_by_legend = refl

-- how many rules, and how many readings -------------------------------------------------------------------------------

-- what is said about 1,023 rules and these lines below them
abbrev told_below_many : List ℕ → Option Fault
told_below_many rules = told (flat_map (λ rule. rule) (replicate 1023 (codes "[]->win\n")) ++ rules)

-- 1,024 rules are within the limit; the lines of a loop are none
many_rules : told_below_many (codes "startloop\n[]->win\nendloop") ≡ None
unfolding chars is_utf8 encode utf8_valid_len
many_rules = refl

-- the next rule isn't
one_rule_more : told_below_many (codes "[]->win\n(x)\n\n[]->win\n[]->win") ≡ at_line 1056 kind.TooManyRules
unfolding chars is_utf8 encode utf8_valid_len
one_rule_more = refl

-- the other faults of its line are told first
one_rigid_rule_more : told_below_many (codes "[]->win\nrigid []->win") ≡ at_line 1054 kind.NotInProfile
unfolding chars is_utf8 encode utf8_valid_len
one_rigid_rule_more = refl

-- an item, `count` times
abbrev times : ℕ → List ℕ → List ℕ
times count item = flat_map (λ each. each) (replicate count item)

-- twelve rows of one cell have 4,096 readings where no word turns with the rule; one that does makes it four times as
-- many, or as many as the rule has directions
directions_counted : map told
    ((times 12 (codes "[ AT ] ") ++ codes "-> cancel") ∷
    (codes "[ > AT ]" ++ (times 11 (codes "[ AT ] ") ++ codes "-> cancel")) ∷
    (codes "down [ > AT ]" ++ (times 11 (codes "[ AT ] ") ++ codes "-> cancel"))
    ∷ (codes "up down [ v AT ]" ++ (times 11 (codes "[ AT ] ") ++ codes "-> cancel")) ∷
    (codes "down [ AT | ]" ++ (times 11 (codes "[ AT ] ") ++ codes "-> cancel")) ∷
    (codes "[ AT | ]" ++ (times 11 (codes "[ AT ] ") ++ codes "-> cancel")) ∷ [])
    ≡ None ∷ at_line 30 kind.TooManyReadings ∷ None ∷ at_line 30 kind.TooManyReadings ∷ None ∷ at_line 30
    kind.TooManyReadings ∷ []
unfolding chars is_utf8 encode utf8_valid_len
directions_counted = refl

-- four directions of 1,024 readings are within the limit; `parallel` has two choices in each; a `>` on the right turns
-- the rule too
choices_counted : map told
    ((codes "[ < AT ]" ++ (times 9 (codes "[ AT ] ") ++ codes "-> cancel")) ∷
    (codes "[ parallel AT ]" ++ (times 8 (codes "[ AT ] ") ++ codes "-> cancel"))
    ∷ (codes "[ parallel AT ]" ++ (times 9 (codes "[ AT ] ") ++ codes "-> cancel")) ∷
    (times 11 (codes "[ AT ] ") ++ (codes "[ A ] -> " ++ (times 11 (codes "[ ] ") ++ codes "[ > A ]"))) ∷ [])
    ≡ None ∷ None ∷ at_line 30 kind.TooManyReadings ∷ at_line 30 kind.TooManyReadings ∷ []
unfolding chars is_utf8 encode utf8_valid_len
choices_counted = refl

-- every reading is impossible: a layer is named twice in one cell of one side. That is by an aggregate, by each member
-- of a property, or by an object and a member that is the same
impossible_rules : AllTold (at_line 30 kind.Impossible)
    (codes "[ @ Wall ] -> cancel" ∷ codes "[ AT B Target ] -> cancel" ∷ codes "[ A ] -> [ B C ]" ∷ codes
    "[ A no B C ] -> cancel" ∷ codes "late [ Player | | Wall Crate ] -> cancel" ∷ codes "[ AT ] -> [ AT B Target ]"
    ∷ codes "[ AT | ] -> [ B AT | Target AT ]" ∷ [])
unfolding chars is_utf8 encode utf8_valid_len
impossible_rules = refl

-- not so where one reading is possible, or where both sides name the layer once
possible_rules : AllTold None
    (codes "[ AT B ] -> cancel" ∷ codes "[ AT Target ] -> cancel" ∷ codes "[ Wall ] -> [ no Wall Player ]" ∷ codes
    "[ A | B ] -> [ B | A ]" ∷ codes "[ AT ] [ AT ] -> [ AT B ] [ AT Target ]" ∷ [])
unfolding chars is_utf8 encode utf8_valid_len
possible_rules = refl
