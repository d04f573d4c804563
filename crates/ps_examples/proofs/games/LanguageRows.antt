-- The examples of docs/LANGUAGE.md and docs/DECISIONS.md, each with what the document says of it.
use Rattle.std.proofs.Common.{◌≡◌, ℕ, List, [], ◌∷◌, ◌++◌, ap, map, length, refl, Option, Some, None, true, false}
use Rattle.std.specs.Prelude.{codes, replicate, nat_lt, option_map}
use Rattle.std.specs.Str.{chars, is_utf8}
use Rattle.std.specs.Str.Lossy.{utf8_valid_len}
use Rattle.std.specs.Fmt.{digits}
use Rattle.std.proofs.Math.Utf8.{encode}
use Rattle.ps_model.specs.board.Turns.{turn}
use Rattle.ps_model.specs.game.Outputs.{opening_step}
use Rattle.ps_model.specs.declared.faults.Fault.{Fault}
use Rattle.ps_model.specs.declared.faults.FaultKind.TheVariants as kind
use Rattle.ps_model.specs.declared.limits.TheConstants.{TEXT_LIMIT}
use Rattle.ps_model.specs.text.Lines.{lines_of}
use Rattle.ps_model.specs.text.Faults.{first_fault}
use Rattle.ps_model.specs.text.TextFaults.{utf8_fault}
use Rattle.ps_model.specs.game.Games.{game, line_faults}
use Rattle.ps_model.specs.board.Programs.{group, program_run}
use Rattle.ps_model.specs.session.StartSteps.{all_start_turns}
use Rattle.ps_model.specs.session.KeySteps.{all_key_turns}
use Rattle.ps_examples.proofs.games.BaseText.{base_game, with_option}
use Rattle.ps_examples.proofs.games.WholeRuns.{written, refused}
use Rattle.ps_examples.proofs.games.ChangedTexts.{changed, many, objects}

-- the game that docs/LANGUAGE.md begins with
abbrev the_game : List ℕ
the_game = base_game (codes "[ > Player | Crate ] -> [ > Player | > Crate ]\n") (codes "All Target on Crate\n") (codes "#P*O#\n")

-- LANGUAGE.md: lines, levels and rules ---------------------------------------------------------------------------------------

whole_game : written the_game (codes "d") ≡ Some (codes "= T\n# level 1\n#P*O#\n\n#.P@#\n\n* level 1 done\n* the end\n")
unfolding chars digits is_utf8 utf8_valid_len encode group program_run all_start_turns all_key_turns turn opening_step
whole_game = refl

comment_in_object : written (changed 14 1 (codes "(a little\n\nred fruit)\nred\n") (base_game [] [] (codes "P\n"))) []
    ≡ Some (codes "= T\n# level 1\nP\n\n* end of keys\n")
unfolding chars digits is_utf8 utf8_valid_len encode group program_run all_start_turns all_key_turns turn opening_step
comment_in_object = refl

three_entries : option_map (λ found. length found.entries) (game (changed 34 1 (codes "message Push!\n#P*O\n###\n\n@P\n") the_game)) ≡ Some 3
unfolding chars is_utf8 utf8_valid_len encode
three_entries = refl

rows_of_entries : written (changed 34 1 (codes "message Push!\n#P*O\n###\n\n@P\n") the_game) (codes "xd")
    ≡ Some (codes "= T\n! Push!\n# level 1\n#P*O\n####\n\n#.P@\n####\n\n* level 1 done\n# level 2\n@P\n\n* end of keys\n")
unfolding chars digits is_utf8 utf8_valid_len encode group program_run all_start_turns all_key_turns turn opening_step
rows_of_entries = refl

rule_line : refused (changed 30 1 (codes "late right [ Player | Crate ] [ no A ] -> [ Player | ] [ A ] again\n") the_game) ≡ None
unfolding chars is_utf8 utf8_valid_len encode
rule_line = refl

rule_without_blanks : written (changed 30 1 (codes "[>Player|Crate]->[>Player|>Crate]\n") the_game) (codes "d")
    ≡ Some (codes "= T\n# level 1\n#P*O#\n\n#.P@#\n\n* level 1 done\n* the end\n")
unfolding chars digits is_utf8 utf8_valid_len encode group program_run all_start_turns all_key_turns turn opening_step
rule_without_blanks = refl

rule_on_row : written (base_game (codes "[ A ] -> [ B ]\n") [] (codes "A\n")) (codes "x") ≡ Some (codes "= T\n# level 1\nA\n\nB\n\n* end of keys\n")
unfolding chars digits is_utf8 utf8_valid_len encode group program_run all_start_turns all_key_turns turn opening_step
rule_on_row = refl

pushed_back : written (base_game (codes "[ > Player | Crate ] -> [ < Player | Crate ]\n") [] (codes ".P*\n")) (codes "d")
    ≡ Some (codes "= T\n# level 1\n.P*\n\nP.*\n\n* end of keys\n")
unfolding chars digits is_utf8 utf8_valid_len encode group program_run all_start_turns all_key_turns turn opening_step
pushed_back = refl

move_is_gone : written (base_game (codes "[ > Player | Crate ] -> [ Player | > Crate ]\n") [] (codes "P*.\n")) (codes "d")
    ≡ Some (codes "= T\n# level 1\nP*.\n\nP.*\n\n* end of keys\n")
unfolding chars digits is_utf8 utf8_valid_len encode group program_run all_start_turns all_key_turns turn opening_step
move_is_gone = refl

smallest_gap : written (base_game (codes "right [ A | ... | B ] -> [ | ... | C ]\n") [] (codes "AB..B\n")) (codes "x")
    ≡ Some (codes "= T\n# level 1\nAB..B\n\n.C..B\n\n* end of keys\n")
unfolding chars digits is_utf8 utf8_valid_len encode group program_run all_start_turns all_key_turns turn opening_step
smallest_gap = refl

wide_gap : written (base_game (codes "right [ A | ... | B ] -> [ | ... | C ]\n") [] (codes "A...B\n")) (codes "x")
    ≡ Some (codes "= T\n# level 1\nA...B\n\n....C\n\n* end of keys\n")
unfolding chars digits is_utf8 utf8_valid_len encode group program_run all_start_turns all_key_turns turn opening_step
wide_gap = refl

first_gap_first : written (base_game (codes "right [ A | ... | B | ... | C ] -> [ | ... | D | ... | C ]\n") [] (codes "AB.BC\n")) (codes "x")
    ≡ Some (codes "= T\n# level 1\nAB.BC\n\n.D.BC\n\n* end of keys\n")
unfolding chars digits is_utf8 utf8_valid_len encode group program_run all_start_turns all_key_turns turn opening_step
first_gap_first = refl

gap_at_the_leftmost_end : written (base_game (codes "left [ A | ... | B | ... | C ] -> [ | ... | D | ... | C ]\n") [] (codes "CB.BA\n")) (codes "x")
    ≡ Some (codes "= T\n# level 1\nCB.BA\n\nCD.B.\n\n* end of keys\n")
unfolding chars digits is_utf8 utf8_valid_len encode group program_run all_start_turns all_key_turns turn opening_step
gap_at_the_leftmost_end = refl

combinations : written (base_game (codes "[ A ] [ A ] -> [ B ] [ C ]\n") [] (codes "AA\n")) (codes "x") ≡ Some (codes "= T\n# level 1\nAA\n\nCC\n\n* end of keys\n")
unfolding chars digits is_utf8 utf8_valid_len encode group program_run all_start_turns all_key_turns turn opening_step
combinations = refl

places_of_rounds : written (base_game (codes "right [ A | B ] -> [ B | A ]\n") [] (codes "ABB\n")) (codes "x")
    ≡ Some (codes "= T\n# level 1\nABB\n\nBBA\n\n* end of keys\n")
unfolding chars digits is_utf8 utf8_valid_len encode group program_run all_start_turns all_key_turns turn opening_step
places_of_rounds = refl

object_for_object : written (base_game (codes "[ A ] -> [ Crate ]\n") [] (codes "A\n")) (codes "x") ≡ Some (codes "= T\n# level 1\nA\n\n*\n\n* end of keys\n")
unfolding chars digits is_utf8 utf8_valid_len encode group program_run all_start_turns all_key_turns turn opening_step
object_for_object = refl

empty_cell_fits : written (base_game (codes "right [ A | ] -> [ | A ]\n") [] (codes "A#\n")) (codes "x") ≡ Some (codes "= T\n# level 1\nA#\n\n.A\n\n* end of keys\n")
unfolding chars digits is_utf8 utf8_valid_len encode group program_run all_start_turns all_key_turns turn opening_step
empty_cell_fits = refl

no_takes_away : written (base_game (codes "[ Crate ] -> [ no Target ]\n") [] (codes "@\n")) (codes "x") ≡ Some (codes "= T\n# level 1\n@\n\n.\n\n* end of keys\n")
unfolding chars digits is_utf8 utf8_valid_len encode group program_run all_start_turns all_key_turns turn opening_step
no_takes_away = refl

split : written (base_game (codes "right [ AT | AT ] -> [ | ]\n") [] (codes "AOA\n")) (codes "x") ≡ Some (codes "= T\n# level 1\nAOA\n\n..A\n\n* end of keys\n")
unfolding chars digits is_utf8 utf8_valid_len encode group program_run all_start_turns all_key_turns turn opening_step
split = refl

own_cell : written (base_game (codes "right [ AT | AT ] -> [ | AT ]\n") [] (codes "AO\n")) (codes "x") ≡ Some (codes "= T\n# level 1\nAO\n\n.O\n\n* end of keys\n")
unfolding chars digits is_utf8 utf8_valid_len encode group program_run all_start_turns all_key_turns turn opening_step
own_cell = refl

only_occurrence : written (base_game (codes "right [ AT | Crate ] -> [ | Crate AT ]\n") [] (codes "O*\n")) (codes "x")
    ≡ Some (codes "= T\n# level 1\nO*\n\n.@\n\n* end of keys\n")
unfolding chars digits is_utf8 utf8_valid_len encode group program_run all_start_turns all_key_turns turn opening_step
only_occurrence = refl

loose : written (changed 23 1 (codes "AC = A or C\n") (base_game (codes "[ > Player | AC ] -> [ > Player | > AC ]\n") [] (codes "PC.\n"))) (codes "d")
    ≡ Some (codes "= T\n# level 1\nPC.\n\n.PC\n\n* end of keys\n")
unfolding chars digits is_utf8 utf8_valid_len encode group program_run all_start_turns all_key_turns turn opening_step
loose = refl

moving : written (base_game (codes "[ moving Player | Crate ] -> [ moving Player | moving Crate ]\n") [] (codes "P*.\n")) (codes "xd")
    ≡ Some (codes "= T\n# level 1\nP*.\n\nP*.\n\n.P*\n\n* end of keys\n")
unfolding chars digits is_utf8 utf8_valid_len encode group program_run all_start_turns all_key_turns turn opening_step
moving = refl

handed_on : written (base_game (codes "[ > Player | Crate ] -> [ > Player | > Crate ]\n[ > Crate | Crate ] -> [ > Crate | > Crate ]\n") [] (codes "P***.\n")) (codes "d")
    ≡ Some (codes "= T\n# level 1\nP***.\n\n.P***\n\n* end of keys\n")
unfolding chars digits is_utf8 utf8_valid_len encode group program_run all_start_turns all_key_turns turn opening_step
handed_on = refl

between_rounds : written (base_game (codes "right [ A | B ] -> [ B | A ]\n+ [ A ] -> [ C ]\n") [] (codes "ABB\n")) (codes "x")
    ≡ Some (codes "= T\n# level 1\nABB\n\nBCB\n\n* end of keys\n")
unfolding chars digits is_utf8 utf8_valid_len encode group program_run all_start_turns all_key_turns turn opening_step
between_rounds = refl

group_ends : written (base_game (codes "[ A ] -> [ B ]\n+ [ B ] -> [ A ]\n[ A ] -> [ C ]\n") [] (codes "A\n")) (codes "x")
    ≡ Some (codes "= T\n# level 1\nA\n\nC\n\n* end of keys\n")
unfolding chars digits is_utf8 utf8_valid_len encode group program_run all_start_turns all_key_turns turn opening_step
group_ends = refl

loop_ends : written (base_game (codes "startloop\n[ C ] -> [ A ]\n[ B ] -> [ C ]\n[ A ] -> [ B ]\nendloop\n[ B ] -> [ D ]\n") [] (codes "A\n")) (codes "x")
    ≡ Some (codes "= T\n# level 1\nA\n\nB\n\n* end of keys\n")
unfolding chars digits is_utf8 utf8_valid_len encode group program_run all_start_turns all_key_turns turn opening_step
loop_ends = refl

late : written (base_game (codes "[ A ] -> [ right A ]\nlate [ A | Wall ] -> [ B | Wall ]\n") [] (codes "A.#\n")) (codes "x")
    ≡ Some (codes "= T\n# level 1\nA.#\n\n.B#\n\n* end of keys\n")
unfolding chars digits is_utf8 utf8_valid_len encode group program_run all_start_turns all_key_turns turn opening_step
late = refl

cancel : written (base_game (codes "[ > Player | Wall ] -> cancel message Stop\n[ > Player | Wall ] -> win\n") [] (codes "P#\n")) (codes "d")
    ≡ Some (codes "= T\n# level 1\nP#\n\nP#\n\n! Stop\n* end of keys\n")
unfolding chars digits is_utf8 utf8_valid_len encode group program_run all_start_turns all_key_turns turn opening_step
cancel = refl

least_enters : written (base_game (codes "[ A ] -> [ right A ]\n[ B ] -> [ left B ]\n[ C ] -> [ up C ]\n[ D ] -> [ down D ]\n") [] (codes "A.B\n")) (codes "x")
    ≡ Some (codes "= T\n# level 1\nA.B\n\n.AB\n\n* end of keys\n")
unfolding chars digits is_utf8 utf8_valid_len encode group program_run all_start_turns all_key_turns turn opening_step
least_enters = refl

above_enters : written (base_game (codes "[ A ] -> [ right A ]\n[ B ] -> [ left B ]\n[ C ] -> [ up C ]\n[ D ] -> [ down D ]\n") [] (codes "...\nACB\n")) (codes "x")
    ≡ Some (codes "= T\n# level 1\n...\nACB\n\n.C.\nAB.\n\n* end of keys\n")
unfolding chars digits is_utf8 utf8_valid_len encode group program_run all_start_turns all_key_turns turn opening_step
above_enters = refl

no_swap : written (base_game (codes "[ A ] -> [ right A ]\n[ B ] -> [ left B ]\n[ C ] -> [ up C ]\n[ D ] -> [ down D ]\n") [] (codes "AB\n")) (codes "x")
    ≡ Some (codes "= T\n# level 1\nAB\n\nAB\n\n* end of keys\n")
unfolding chars digits is_utf8 utf8_valid_len encode group program_run all_start_turns all_key_turns turn opening_step
no_swap = refl

no_ring : written (base_game (codes "[ A ] -> [ right A ]\n[ B ] -> [ left B ]\n[ C ] -> [ up C ]\n[ D ] -> [ down D ]\n") [] (codes "AD\nCB\n")) (codes "x")
    ≡ Some (codes "= T\n# level 1\nAD\nCB\n\nAD\nCB\n\n* end of keys\n")
unfolding chars digits is_utf8 utf8_valid_len encode group program_run all_start_turns all_key_turns turn opening_step
no_ring = refl

checkpoint : written (base_game (codes "[ action Player ] -> checkpoint\n") [] (codes "P...\n")) (codes "dxdrzzzrq")
    ≡ Some (codes "= T\n# level 1\nP...\n\n.P..\n\n.P..\n\n..P.\n\n.P..\n\n..P.\n\n.P..\n\nP...\n\n.P..\n\n* quit\n")
unfolding chars digits is_utf8 utf8_valid_len encode group program_run all_start_turns all_key_turns turn opening_step
checkpoint = refl

again : written (base_game (codes "[ B ] -> [ C ] message Two\n[ action Player ] [ A ] -> [ Player ] [ B ] again\n") [] (codes "PA\n")) (codes "x")
    ≡ Some (codes "= T\n# level 1\nPA\n\nPB\n\nPC\n\n! Two\n* end of keys\n")
unfolding chars digits is_utf8 utf8_valid_len encode group program_run all_start_turns all_key_turns turn opening_step
again = refl

again_without_change : written (base_game (codes "[ B ] -> message Hi\n[ action Player ] [ A ] -> [ Player ] [ B ] again\n") [] (codes "PA\n")) (codes "x")
    ≡ Some (codes "= T\n# level 1\nPA\n\nPB\n\n* end of keys\n")
unfolding chars digits is_utf8 utf8_valid_len encode group program_run all_start_turns all_key_turns turn opening_step
again_without_change = refl

-- DECISIONS.md: texts and lines ----------------------------------------------------------------------------------------------

empty_line_in_comment : written (base_game [] [] (codes "P\n(a\n\nb)\nP\n")) [] ≡ Some (codes "= T\n# level 1\nP\nP\n\n* end of keys\n")
unfolding chars digits is_utf8 utf8_valid_len encode group program_run all_start_turns all_key_turns turn opening_step
empty_line_in_comment = refl

comment_in_row : refused (base_game [] [] (codes "P(x)P\n")) ≡ Some (record { kind = kind.UnknownGlyph; line = 32 })
unfolding chars is_utf8 utf8_valid_len encode
comment_in_row = refl

comment_behind_row : written (base_game [] [] (codes "P (x)\n")) [] ≡ Some (codes "= T\n# level 1\nP\n\n* end of keys\n")
unfolding chars digits is_utf8 utf8_valid_len encode group program_run all_start_turns all_key_turns turn opening_step
comment_behind_row = refl

comment_before_row : written (base_game [] [] (codes "(xx)P\n")) [] ≡ Some (codes "= T\n# level 1\nP\n\n* end of keys\n")
unfolding chars digits is_utf8 utf8_valid_len encode group program_run all_start_turns all_key_turns turn opening_step
comment_before_row = refl

comment_before_colours : written (changed 13 2 (codes "A\n(red)\nred\n") (base_game [] [] (codes "P\n"))) [] ≡ Some (codes "= T\n# level 1\nP\n\n* end of keys\n")
unfolding chars digits is_utf8 utf8_valid_len encode group program_run all_start_turns all_key_turns turn opening_step
comment_before_colours = refl

divider_in_level : written (base_game [] [] (codes "P.\n===\nP.\n")) [] ≡ Some (codes "= T\n# level 1\nP.\nP.\n\n* end of keys\n")
unfolding chars digits is_utf8 utf8_valid_len encode group program_run all_start_turns all_key_turns turn opening_step
divider_in_level = refl

divider_before_colours : written (changed 13 2 (codes "A\n== (x) =\nred\n") (base_game [] [] (codes "P\n"))) [] ≡ Some (codes "= T\n# level 1\nP\n\n* end of keys\n")
unfolding chars digits is_utf8 utf8_valid_len encode group program_run all_start_turns all_key_turns turn opening_step
divider_before_colours = refl

blank_before_colours : refused (changed 14 1 (codes "\n") (base_game [] [] (codes "P\n"))) ≡ Some (record { kind = kind.BadObject; line = 13 })
unfolding chars is_utf8 utf8_valid_len encode
blank_before_colours = refl

digits_name_an_object : refused (changed 14 1 (codes "red\n\n00000\nred\n") (base_game [] [] (codes "P\n"))) ≡ Some (record { kind = kind.NoLayer; line = 16 })
unfolding chars is_utf8 utf8_valid_len encode
digits_name_an_object = refl

header_as_colours : refused (changed 14 1 (codes "legend (red)\n") (base_game [] [] (codes "P\n"))) ≡ Some (record { kind = kind.SectionOrder; line = 21 })
unfolding chars is_utf8 utf8_valid_len encode
header_as_colours = refl

first_title : written (changed 1 1 (codes "title\ntitle X\n") (base_game [] [] (codes "P\n"))) [] ≡ Some (codes "= \n# level 1\nP\n\n* end of keys\n")
unfolding chars digits is_utf8 utf8_valid_len encode group program_run all_start_turns all_key_turns turn opening_step
first_title = refl

title_before_comment : written (changed 1 1 (codes "title(x)\n") (base_game [] [] (codes "P\n"))) [] ≡ Some (codes "= \n# level 1\nP\n\n* end of keys\n")
unfolding chars digits is_utf8 utf8_valid_len encode group program_run all_start_turns all_key_turns turn opening_step
title_before_comment = refl

title_behind_comment : written (changed 1 1 (codes "title (x) y\n") (base_game [] [] (codes "P\n"))) [] ≡ Some (codes "= \n# level 1\nP\n\n* end of keys\n")
unfolding chars digits is_utf8 utf8_valid_len encode group program_run all_start_turns all_key_turns turn opening_step
title_behind_comment = refl

message_with_bracket : written (base_game (codes "[ A ] -> message(a) b\n") [] (codes "A\n")) (codes "x")
    ≡ Some (codes "= T\n# level 1\nA\n\nA\n\n! (a) b\n* end of keys\n")
unfolding chars digits is_utf8 utf8_valid_len encode group program_run all_start_turns all_key_turns turn opening_step
message_with_bracket = refl

longer_words : written (changed 1 1 (codes "title T\nnoundos\nrealtime_intervals 1\n") (base_game [] [] (codes "P.\n"))) (codes "dz")
    ≡ Some (codes "= T\n# level 1\nP.\n\n.P\n\nP.\n\n* end of keys\n")
unfolding chars digits is_utf8 utf8_valid_len encode group program_run all_start_turns all_key_turns turn opening_step
longer_words = refl

-- DECISIONS.md: names --------------------------------------------------------------------------------------------------------

digits_and_a_word : refused (changed 14 1 (codes "red\n00000 x\nred\n") (base_game [] [] (codes "P\n"))) ≡ Some (record { kind = kind.NoLayer; line = 15 })
unfolding chars is_utf8 utf8_valid_len encode
digits_and_a_word = refl

twice_in_a_line : refused (changed 13 1 (codes "A a\n") (base_game [] [] (codes "P\n"))) ≡ Some (record { kind = kind.Twice; line = 13 })
unfolding chars is_utf8 utf8_valid_len encode
twice_in_a_line = refl

and_as_name : refused (changed 23 1 (codes "AT = And or B\n") (changed 13 1 (codes "And\n") (base_game [] [] (codes "P\n")))) ≡ Some (record { kind = kind.MixedAndOr; line = 23 })
unfolding chars is_utf8 utf8_valid_len encode
and_as_name = refl

twice_before_form : refused (changed 22 1 (codes "Wall = Crate and\n") (base_game [] [] (codes "P\n"))) ≡ Some (record { kind = kind.Twice; line = 22 })
unfolding chars is_utf8 utf8_valid_len encode
twice_before_form = refl

first_on_the_circle : refused (changed 22 2 (codes "E = F\nF = G\nG = F\n") (base_game [] [] (codes "P\n"))) ≡ Some (record { kind = kind.Cycle; line = 23 })
unfolding chars is_utf8 utf8_valid_len encode
first_on_the_circle = refl

undeclared_where_written : refused (changed 22 2 (codes "E = F\nF = Traget\n") (base_game [] [] (codes "P\n"))) ≡ Some (record { kind = kind.UnknownName; line = 23 })
unfolding chars digits is_utf8 utf8_valid_len encode group program_run all_start_turns all_key_turns turn opening_step
undeclared_where_written = refl

aggregate_by_synonym : refused (changed 22 2 (codes "E = @\n@ = Crate and Target\nAT = A or E\n") (base_game [] [] (codes "P\n"))) ≡ Some (record { kind = kind.AggregateInProperty; line = 24 })
unfolding chars is_utf8 utf8_valid_len encode
aggregate_by_synonym = refl

no_layer_before_no_background : refused (changed 28 1 (codes "A B C\n") (changed 25 1 (codes "Ground\n") (changed 3 1 (codes "Ground .\n") (base_game [] [] (codes "P\n"))))) ≡ Some (record { kind = kind.NoLayer; line = 19 })
unfolding chars is_utf8 utf8_valid_len encode
no_layer_before_no_background = refl

background_by_synonym : refused (changed 25 1 (codes "Floor\n") (changed 22 2 (codes "Ground = A or Target\nBackground = Ground\n") (changed 3 1 (codes "Floor .\n") (base_game [] [] (codes "P\n"))))) ≡ Some (record { kind = kind.BadBackground; line = 23 })
unfolding chars is_utf8 utf8_valid_len encode
background_by_synonym = refl

aggregate_of_one : refused (changed 28 1 (codes "AT B C D\n") (changed 23 1 (codes "AT = A and A\n") (base_game [] [] (codes "P\n")))) ≡ Some (record { kind = kind.AggregateInLayer; line = 28 })
unfolding chars is_utf8 utf8_valid_len encode
aggregate_of_one = refl

aggregate_on_one_layer : refused (changed 22 1 (codes "@ = A and B\n") (base_game [] [] (codes "P\n"))) ≡ Some (record { kind = kind.SameLayerAggregate; line = 22 })
unfolding chars is_utf8 utf8_valid_len encode
aggregate_on_one_layer = refl

last_layer_counts : written (changed 29 0 (codes "AT\n") (changed 22 1 (codes "@ = A and B\n") (base_game [] [] (codes "P\n")))) []
    ≡ Some (codes "= T\n# level 1\nP\n\n* end of keys\n")
unfolding chars digits is_utf8 utf8_valid_len encode group program_run all_start_turns all_key_turns turn opening_step
last_layer_counts = refl

-- DECISIONS.md: rules, words and forms ---------------------------------------------------------------------------------------

second_plus : refused (base_game (codes "[ A ] -> [ B ]\n++ [ B ] -> [ C ]\n") [] (codes "P\n")) ≡ Some (record { kind = kind.UnknownWord; line = 31 })
unfolding chars is_utf8 utf8_valid_len encode
second_plus = refl

plus_as_object : written (changed 28 1 (codes "A B C +\n") (changed 19 1 (codes "+\n") (base_game (codes "[ A ] -> [ + ]\n") [] (codes "A\n")))) (codes "x")
    ≡ Some (codes "= T\n# level 1\nA\n\n+\n\n* end of keys\n")
unfolding chars digits is_utf8 utf8_valid_len encode group program_run all_start_turns all_key_turns turn opening_step
plus_as_object = refl

signs_cut_off : refused (base_game (codes "[ >>A ] -> [ A ]\n") [] (codes "P\n")) ≡ Some (record { kind = kind.UnknownWord; line = 30 })
unfolding chars is_utf8 utf8_valid_len encode
signs_cut_off = refl

key_word_as_object : refused (changed 28 1 (codes "v B C D\n") (changed 23 1 (codes "AT = v or Target\n") (changed 13 1 (codes "v\n") (base_game (codes "[ v ] -> [ B ]\n") [] (codes "P\n"))))) ≡ Some (record { kind = kind.UnknownWord; line = 30 })
unfolding chars is_utf8 utf8_valid_len encode
key_word_as_object = refl

no_key_word : written (changed 28 1 (codes "A B C sfx11\n") (changed 19 1 (codes "sfx11 S\n") (base_game (codes "[ sfx11 ] -> [ A ]\n") [] (codes "S\n")))) (codes "x")
    ≡ Some (codes "= T\n# level 1\nS\n\nA\n\n* end of keys\n")
unfolding chars digits is_utf8 utf8_valid_len encode group program_run all_start_turns all_key_turns turn opening_step
no_key_word = refl

message_in_brackets : refused (base_game (codes "[ A ] -> [ message ]\n") [] (codes "P\n")) ≡ Some (record { kind = kind.BadBracket; line = 30 })
unfolding chars is_utf8 utf8_valid_len encode
message_in_brackets = refl

message_on_the_left : refused (base_game (codes "[ message A ] -> [ B ]\n") [] (codes "P\n")) ≡ Some (record { kind = kind.UnknownWord; line = 30 })
unfolding chars is_utf8 utf8_valid_len encode
message_on_the_left = refl

left_out_word_is_absent : refused (base_game (codes "random [ A ] ->\n") [] (codes "P\n")) ≡ Some (record { kind = kind.NothingRight; line = 30 })
unfolding chars is_utf8 utf8_valid_len encode
left_out_word_is_absent = refl

left_out_word : refused (base_game (codes "random [ A ] -> [ B ]\n") [] (codes "P\n")) ≡ Some (record { kind = kind.NotInProfile; line = 30 })
unfolding chars is_utf8 utf8_valid_len encode
left_out_word = refl

no_arrow : map (λ rule. refused (base_game rule [] (codes "P\n"))) (codes "[ A -> B ]\n" ∷ codes "Nonsense\n" ∷ codes "startloop x\n" ∷ codes "+\n" ∷ [])
    ≡ replicate 4 (Some (record { kind = kind.BadBracket; line = 30 }))
unfolding chars is_utf8 utf8_valid_len encode
no_arrow = refl

command_before_row : refused (base_game (codes "[ A ] -> cancel [ B ]\n") [] (codes "P\n")) ≡ Some (record { kind = kind.UnknownWord; line = 30 })
unfolding chars is_utf8 utf8_valid_len encode
command_before_row = refl

word_without_name : map (λ rule. refused (base_game rule [] (codes "P\n"))) (codes "[ > ] -> [ A ]\n" ∷ codes "[ A | no ... | B ] -> cancel\n" ∷ [])
    ≡ replicate 2 (Some (record { kind = kind.UnknownWord; line = 30 }))
unfolding chars is_utf8 utf8_valid_len encode
word_without_name = refl

order_of_directions : written (base_game (codes "down up down [ A | B ] -> [ | C ]\n") [] (codes "B\nA\nB\n")) (codes "x")
    ≡ Some (codes "= T\n# level 1\nB\nA\nB\n\nC\n.\nB\n\n* end of keys\n")
unfolding chars digits is_utf8 utf8_valid_len encode group program_run all_start_turns all_key_turns turn opening_step
order_of_directions = refl

empty_cell : written (base_game (codes "right [ A | ] -> [ A | B ]\n") [] (codes "A#\n")) (codes "x") ≡ Some (codes "= T\n# level 1\nA#\n\nAB\n\n* end of keys\n")
unfolding chars digits is_utf8 utf8_valid_len encode group program_run all_start_turns all_key_turns turn opening_step
empty_cell = refl

sound_alone : written (base_game (codes "[ A ] -> sfx0\n") [] (codes "A\n")) (codes "x") ≡ Some (codes "= T\n# level 1\nA\n\nA\n\n* end of keys\n")
unfolding chars digits is_utf8 utf8_valid_len encode group program_run all_start_turns all_key_turns turn opening_step
sound_alone = refl

message_without_text : written (base_game (codes "[ A ] -> message\n") [] (codes "P.A\n")) (codes "dd")
    ≡ Some (codes "= T\n# level 1\nP.A\n\n.PA\n\n! \n* end of keys\n")
unfolding chars digits is_utf8 utf8_valid_len encode group program_run all_start_turns all_key_turns turn opening_step
message_without_text = refl

synonym_twice : refused (base_game (codes "[ Crate * ] -> cancel\n") [] (codes "P\n")) ≡ Some (record { kind = kind.NameTwice; line = 30 })
unfolding chars is_utf8 utf8_valid_len encode
synonym_twice = refl

property_beside_member : written (base_game (codes "[ AT A ] -> cancel\n") [] (codes "P\n")) [] ≡ Some (codes "= T\n# level 1\nP\n\n* end of keys\n")
unfolding chars digits is_utf8 utf8_valid_len encode group program_run all_start_turns all_key_turns turn opening_step
property_beside_member = refl

loose_property_beside_member : refused (changed 23 1 (codes "AC = A or C\n") (base_game (codes "[ AC A ] -> cancel\n") [] (codes "P\n"))) ≡ Some (record { kind = kind.Impossible; line = 30 })
unfolding chars is_utf8 utf8_valid_len encode
loose_property_beside_member = refl

stationary_is_late : refused (base_game (codes "late [ stationary A ] -> [ B ]\n") [] (codes "P\n")) ≡ Some (record { kind = kind.LateMove; line = 30 })
unfolding chars is_utf8 utf8_valid_len encode
stationary_is_late = refl

-- DECISIONS.md: rules, meaning -----------------------------------------------------------------------------------------------

turned_in_four_directions : written (base_game (codes "[ A ] -> [ ^ A ]\n") [] (codes ".\nA\n")) (codes "x")
    ≡ Some (codes "= T\n# level 1\n.\nA\n\nA\n.\n\n* end of keys\n")
unfolding chars digits is_utf8 utf8_valid_len encode group program_run all_start_turns all_key_turns turn opening_step
turned_in_four_directions = refl

free_of_direction : written (base_game (codes "[ A ] [ B ] -> [ ] [ C ]\n") [] (codes "AB\nB.\n")) (codes "x")
    ≡ Some (codes "= T\n# level 1\nAB\nB.\n\n.B\nC.\n\n* end of keys\n")
unfolding chars digits is_utf8 utf8_valid_len encode group program_run all_start_turns all_key_turns turn opening_step
free_of_direction = refl

axis_of_the_direction : written (base_game (codes "right [ A ] [ B ] -> [ ] [ C ]\n") [] (codes "AB\nB.\n")) (codes "x")
    ≡ Some (codes "= T\n# level 1\nAB\nB.\n\n.C\nB.\n\n* end of keys\n")
unfolding chars digits is_utf8 utf8_valid_len encode group program_run all_start_turns all_key_turns turn opening_step
axis_of_the_direction = refl

choice_of_none : refused (base_game (codes "right [ AT | AT | Crate ] -> [ | | Crate AT ]\n") [] (codes "P\n")) ≡ Some (record { kind = kind.Unbound; line = 30 })
unfolding chars is_utf8 utf8_valid_len encode
choice_of_none = refl

bound_by_synonym : written (changed 22 1 (codes "TA = AT\n") (base_game (codes "right [ AT | AT ] -> [ | TA ]\n") [] (codes "AO\n"))) (codes "x")
    ≡ Some (codes "= T\n# level 1\nAO\n\n.O\n\n* end of keys\n")
unfolding chars digits is_utf8 utf8_valid_len encode group program_run all_start_turns all_key_turns turn opening_step
bound_by_synonym = refl

words_as_written : refused (base_game (codes "right [ horizontal A ] -> [ parallel A ]\n") [] (codes "P\n")) ≡ Some (record { kind = kind.Unbound; line = 30 })
unfolding chars digits is_utf8 utf8_valid_len encode group program_run all_start_turns all_key_turns turn opening_step
words_as_written = refl

one_object_twice : written (changed 22 1 (codes "TA = Target or A\n") (base_game (codes "[ AT TA ] -> [ ]\n") [] (codes "AO\n"))) (codes "x")
    ≡ Some (codes "= T\n# level 1\nAO\n\nAO\n\n* end of keys\n")
unfolding chars digits is_utf8 utf8_valid_len encode group program_run all_start_turns all_key_turns turn opening_step
one_object_twice = refl

barred_and_named : written (base_game (codes "[ Player ] -> [ Player no Player ]\n") [] (codes "P.\n")) (codes "d")
    ≡ Some (codes "= T\n# level 1\nP.\n\nP.\n\n* end of keys\n")
unfolding chars digits is_utf8 utf8_valid_len encode group program_run all_start_turns all_key_turns turn opening_step
barred_and_named = refl

named : written (base_game (codes "[ Player ] -> [ Player ]\n") [] (codes "P.\n")) (codes "d") ≡ Some (codes "= T\n# level 1\nP.\n\n.P\n\n* end of keys\n")
unfolding chars digits is_utf8 utf8_valid_len encode group program_run all_start_turns all_key_turns turn opening_step
named = refl

move_of_the_layer : written (base_game (codes "[ Player ] -> [ Crate ]\n") [] (codes "P.\n")) (codes "d") ≡ Some (codes "= T\n# level 1\nP.\n\n.*\n\n* end of keys\n")
unfolding chars digits is_utf8 utf8_valid_len encode group program_run all_start_turns all_key_turns turn opening_step
move_of_the_layer = refl

rows_meet : written (base_game (codes "[ A ] [ A ] -> [ B ] [ C ]\n") [] (codes "A\n")) (codes "x") ≡ Some (codes "= T\n# level 1\nA\n\nC\n\n* end of keys\n")
unfolding chars digits is_utf8 utf8_valid_len encode group program_run all_start_turns all_key_turns turn opening_step
rows_meet = refl

leftmost_end : written (base_game (codes "left [ A | ... | B ] -> [ | ... | C ]\n") [] (codes "B.B.A\n")) (codes "x")
    ≡ Some (codes "= T\n# level 1\nB.B.A\n\nC.B..\n\n* end of keys\n")
unfolding chars digits is_utf8 utf8_valid_len encode group program_run all_start_turns all_key_turns turn opening_step
leftmost_end = refl

loop_of_late_rules : written (base_game (codes "startloop\nlate [ A ] -> [ B ]\nendloop\n[ B ] -> [ C ]\n") [] (codes "A\n")) (codes "xx")
    ≡ Some (codes "= T\n# level 1\nA\n\nB\n\nC\n\n* end of keys\n")
unfolding chars digits is_utf8 utf8_valid_len encode group program_run all_start_turns all_key_turns turn opening_step
loop_of_late_rules = refl

-- DECISIONS.md: movement, levels and frames ----------------------------------------------------------------------------------

least_of_two : written (base_game (codes "[ A ] -> [ right A ]\n[ B ] -> [ left B ]\n") [] (codes "A.B\n")) (codes "x")
    ≡ Some (codes "= T\n# level 1\nA.B\n\n.AB\n\n* end of keys\n")
unfolding chars digits is_utf8 utf8_valid_len encode group program_run all_start_turns all_key_turns turn opening_step
least_of_two = refl

least_above : written (base_game (codes "[ A ] -> [ right A ]\n[ B ] -> [ left B ]\n[ C ] -> [ up C ]\n") [] (codes "...\nACB\n")) (codes "x")
    ≡ Some (codes "= T\n# level 1\n...\nACB\n\n.C.\nAB.\n\n* end of keys\n")
unfolding chars digits is_utf8 utf8_valid_len encode group program_run all_start_turns all_key_turns turn opening_step
least_above = refl

folded_row : written (base_game [] [] (codes "p..\n")) [] ≡ Some (codes "= T\n# level 1\nP..\n\n* end of keys\n")
unfolding chars digits is_utf8 utf8_valid_len encode group program_run all_start_turns all_key_turns turn opening_step
folded_row = refl

any_ground : written (changed 28 1 (codes "A B C\n") (changed 25 1 (codes "Background D\n") (base_game [] [] (codes "PD\n")))) (codes "d")
    ≡ Some (codes "= T\n# level 1\nPD\n\nDP\n\n* end of keys\n")
unfolding chars digits is_utf8 utf8_valid_len encode group program_run all_start_turns all_key_turns turn opening_step
any_ground = refl

unknown_before_wide : refused (base_game [] [] (replicate 256 46 ++ codes "?\n")) ≡ Some (record { kind = kind.UnknownGlyph; line = 32 })
unfolding chars is_utf8 utf8_valid_len encode
unknown_before_wide = refl

too_wide : refused (base_game [] [] (replicate 257 46 ++ codes "\n")) ≡ Some (record { kind = kind.TooLarge; line = 32 })
unfolding chars is_utf8 utf8_valid_len encode
too_wide = refl

bare_cell : written (base_game (codes "[ Background ] -> [ ]\n") [] (codes ".P\n")) (codes "x") ≡ Some (codes "= T\n# level 1\n.P\n\n?P\n\n* end of keys\n")
unfolding chars digits is_utf8 utf8_valid_len encode group program_run all_start_turns all_key_turns turn opening_step
bare_cell = refl

-- DECISIONS.md: turns and keys -----------------------------------------------------------------------------------------------

held_before_cancel : written (with_option (codes "require_player_movement") (codes "[ > Player | Wall ] -> cancel message Stop\n") (codes "P#\n")) (codes "d")
    ≡ Some (codes "= T\n# level 1\nP#\n\nP#\n\n* end of keys\n")
unfolding chars digits is_utf8 utf8_valid_len encode group program_run all_start_turns all_key_turns turn opening_step
held_before_cancel = refl

nobody_to_hold : written (with_option (codes "require_player_movement") (codes "[ A ] -> [ B ]\n") (codes ".A\n")) (codes "x")
    ≡ Some (codes "= T\n# level 1\n.A\n\n.B\n\n* end of keys\n")
unfolding chars digits is_utf8 utf8_valid_len encode group program_run all_start_turns all_key_turns turn opening_step
nobody_to_hold = refl

restart_again : written (base_game (codes "[ B ] -> restart\n[ action Player ] [ A ] -> [ Player ] [ B ] again\n") [] (codes "PA\n")) (codes "xzz")
    ≡ Some (codes "= T\n# level 1\nPA\n\nPB\n\nPA\n\nPA\n\nPA\n\n* end of keys\n")
unfolding chars digits is_utf8 utf8_valid_len encode group program_run all_start_turns all_key_turns turn opening_step
restart_again = refl

again_turns_of_a_restart : written (with_option (codes "run_rules_on_level_start") (codes "[ D ] -> restart\n[ B ] -> [ C ]\n[ A ] -> [ B ] again\n[ action Player ] [ C ] -> [ Player ] [ D ] again\n") (codes "PA\n")) (codes "x")
    ≡ Some (codes "= T\n# level 1\nPB\n\nPC\n\nPD\n\nPB\n\nPC\n\n* end of keys\n")
unfolding chars digits is_utf8 utf8_valid_len encode group program_run all_start_turns all_key_turns turn opening_step
again_turns_of_a_restart = refl

wins_dropped : written (with_option (codes "run_rules_on_level_start") (codes "[ B ] -> [ C ] win\n[ A ] -> [ B ] again\n") (codes "A\n")) []
    ≡ Some (codes "= T\n# level 1\nB\n\nC\n\n* end of keys\n")
unfolding chars digits is_utf8 utf8_valid_len encode group program_run all_start_turns all_key_turns turn opening_step
wins_dropped = refl

message_of_the_start : written (with_option (codes "run_rules_on_level_start") (codes "[ A ] -> [ B ] message Start\n[ action Player ] -> restart message Back\n") (codes "PA\n")) (codes "xx")
    ≡ Some (codes "= T\n# level 1\nPB\n\n! Start\nPB\n\n! Start\n* end of keys\n")
unfolding chars digits is_utf8 utf8_valid_len encode group program_run all_start_turns all_key_turns turn opening_step
message_of_the_start = refl

win_before_again : written (base_game (codes "[ B ] -> [ C ]\n[ action Player ] [ A ] -> [ Player ] [ B ] win again\n") [] (codes "PA\n")) (codes "x")
    ≡ Some (codes "= T\n# level 1\nPA\n\nPB\n\n* level 1 done\n* the end\n")
unfolding chars digits is_utf8 utf8_valid_len encode group program_run all_start_turns all_key_turns turn opening_step
win_before_again = refl

-- DECISIONS.md: rooms ---------------------------------------------------------------------------------------------------------

one_word : refused (changed 1 1 (codes "title T\nflickscreen 3 x 1\n") (base_game [] [] (codes "P\n"))) ≡ Some (record { kind = kind.BadFlickscreen; line = 2 })
unfolding chars is_utf8 utf8_valid_len encode
one_word = refl

whole_line : map (λ line. refused (changed 1 1 (codes "title T\n" ++ line) (base_game [] [] (codes "P\n")))) (codes "flickscreen 003X1 wide\n" ∷ codes "flickscreens 3\n" ∷ []) ≡ replicate 2 None
unfolding chars is_utf8 utf8_valid_len encode
whole_line = refl

none_bad : refused (changed 1 1 (codes "flickscreen 3x1\nflickscreen 3\n") (base_game [] [] (codes "P\n"))) ≡ Some (record { kind = kind.BadFlickscreen; line = 2 })
unfolding chars is_utf8 utf8_valid_len encode
none_bad = refl

-- LANGUAGE.md, faults: the text ----------------------------------------------------------------------------------------------

not_utf8 : refused (changed 1 1 (codes "title Caf" ++ 233 ∷ codes "\n") the_game) ≡ Some (record { kind = kind.NotUtf8; line = 1 })
unfolding chars is_utf8 utf8_valid_len encode
not_utf8 = refl

-- of a text over the limit nothing else is looked at
abbrev told_of : Option Fault → List ℕ → Option Fault
told_of cause text = first_fault (elim cause [ Some fault ↦ fault ∷ [] | None ↦ line_faults (lines_of text) ])

too_long : (text : List ℕ) → nat_lt TEXT_LIMIT (length text) ≡ true → refused text ≡ Some (record { kind = kind.TooLong; line = 1 })
too_long text long = ap (λ test. told_of (elim test [ true ↦ Some (record { kind = kind.TooLong; line = 1 }) | false ↦ utf8_fault text ]) text) long

-- LANGUAGE.md, faults: the game as a whole -----------------------------------------------------------------------------------

section_order : refused (changed 29 4 (codes "WINCONDITIONS\nAll Target on Crate\nRULES\n") the_game) ≡ Some (record { kind = kind.SectionOrder; line = 31 })
unfolding chars is_utf8 utf8_valid_len encode
section_order = refl

no_section : refused (changed 32 1 (codes "All Target on Crate (and here the comment goes on\n") the_game) ≡ Some (record { kind = kind.NoSection; line = 34 })
unfolding chars is_utf8 utf8_valid_len encode
no_section = refl

realtime : refused (changed 2 0 (codes "realtime_interval 0.5\n") the_game) ≡ Some (record { kind = kind.Realtime; line = 2 })
unfolding chars is_utf8 utf8_valid_len encode
realtime = refl

too_many_readings : refused (changed 30 1 (codes "[ moving A | moving A | moving A | moving A | moving A ] -> cancel\n") the_game)
    ≡ Some (record { kind = kind.TooManyReadings; line = 30 })
unfolding chars is_utf8 utf8_valid_len encode
too_many_readings = refl

readings_in_one_direction : refused (changed 30 1 (codes "right [ moving A | moving A | moving A | moving A | moving A ] -> cancel\n") the_game) ≡ None
unfolding chars is_utf8 utf8_valid_len encode
readings_in_one_direction = refl

impossible : refused (changed 30 1 (codes "[ Player Wall ] -> [ Player ]\n") the_game) ≡ Some (record { kind = kind.Impossible; line = 30 })
unfolding chars is_utf8 utf8_valid_len encode
impossible = refl

bad_flickscreen : refused (changed 2 0 (codes "flickscreen 3 x 1\n") the_game) ≡ Some (record { kind = kind.BadFlickscreen; line = 2 })
unfolding chars is_utf8 utf8_valid_len encode
bad_flickscreen = refl

-- LANGUAGE.md, faults: names -------------------------------------------------------------------------------------------------

bad_object : refused (changed 15 0 (codes "..0..\n.000.\n") the_game) ≡ Some (record { kind = kind.BadObject; line = 13 })
unfolding chars is_utf8 utf8_valid_len encode
bad_object = refl

bad_name_line : map (λ line. refused (changed 13 1 line the_game)) (codes "A ab\n" ∷ codes "A b c\n" ∷ []) ≡ replicate 2 (Some (record { kind = kind.BadObject; line = 13 }))
unfolding chars is_utf8 utf8_valid_len encode
bad_name_line = refl

twice : refused (changed 15 1 (codes "a\n") the_game) ≡ Some (record { kind = kind.Twice; line = 15 })
unfolding chars is_utf8 utf8_valid_len encode
twice = refl

mixed_and_or : refused (changed 23 1 (codes "AT = A and B or Target\n") the_game) ≡ Some (record { kind = kind.MixedAndOr; line = 23 })
unfolding chars is_utf8 utf8_valid_len encode
mixed_and_or = refl

unknown_name : refused (changed 22 1 (codes "@ = Crate and Traget\n") the_game) ≡ Some (record { kind = kind.UnknownName; line = 22 })
unfolding chars is_utf8 utf8_valid_len encode
unknown_name = refl

cycle : refused (changed 22 2 (codes "Box = Case\nCase = Box\n") the_game) ≡ Some (record { kind = kind.Cycle; line = 22 })
unfolding chars is_utf8 utf8_valid_len encode
cycle = refl

aggregate_in_property : refused (changed 23 1 (codes "AT = A or @\n") the_game) ≡ Some (record { kind = kind.AggregateInProperty; line = 23 })
unfolding chars is_utf8 utf8_valid_len encode
aggregate_in_property = refl

property_in_aggregate : refused (changed 22 1 (codes "@ = Crate and AT\n") the_game) ≡ Some (record { kind = kind.PropertyInAggregate; line = 22 })
unfolding chars is_utf8 utf8_valid_len encode
property_in_aggregate = refl

aggregate_in_layer : refused (changed 26 1 (codes "@\n") the_game) ≡ Some (record { kind = kind.AggregateInLayer; line = 26 })
unfolding chars is_utf8 utf8_valid_len encode
aggregate_in_layer = refl

no_layer : refused (changed 28 1 (codes "A B C\n") the_game) ≡ Some (record { kind = kind.NoLayer; line = 19 })
unfolding chars is_utf8 utf8_valid_len encode
no_layer = refl

no_background : refused (changed 25 1 (codes "Grass\n") (changed 3 1 (codes "Grass .\n") the_game)) ≡ Some (record { kind = kind.NoBackground; line = 2 })
unfolding chars is_utf8 utf8_valid_len encode
no_background = refl

no_player : refused (changed 27 1 (codes "Hero, Wall, Crate\n") (changed 7 1 (codes "Hero P\n") the_game)) ≡ Some (record { kind = kind.NoPlayer; line = 2 })
unfolding chars is_utf8 utf8_valid_len encode
no_player = refl

bad_background : refused (changed 25 1 (codes "Grass\n") (changed 22 1 (codes "Background = Grass or Target\n") (changed 3 1 (codes "Grass .\n") the_game)))
    ≡ Some (record { kind = kind.BadBackground; line = 22 })
unfolding chars is_utf8 utf8_valid_len encode
bad_background = refl

bad_player : refused (changed 27 1 (codes "Hero, Wall, Crate\n") (changed 22 1 (codes "Player = Hero and Target\n") (changed 7 1 (codes "Hero P\n") the_game)))
    ≡ Some (record { kind = kind.BadPlayer; line = 22 })
unfolding chars is_utf8 utf8_valid_len encode
bad_player = refl

too_many_names : refused (changed 21 0 (objects 504) the_game) ≡ Some (record { kind = kind.TooManyNames; line = 1027 })
unfolding chars digits is_utf8 utf8_valid_len encode
too_many_names = refl

too_many_layers : refused (changed 29 0 (many 125 (codes "A\n")) the_game) ≡ Some (record { kind = kind.TooManyNames; line = 153 })
unfolding chars is_utf8 utf8_valid_len encode
too_many_layers = refl

same_layer_aggregate : refused (changed 22 1 (codes "@ = Crate and Player\n") the_game) ≡ Some (record { kind = kind.SameLayerAggregate; line = 22 })
unfolding chars is_utf8 utf8_valid_len encode
same_layer_aggregate = refl

bad_line : refused (changed 22 1 (codes "@ = Crate Target\n") the_game) ≡ Some (record { kind = kind.BadLine; line = 22 })
unfolding chars is_utf8 utf8_valid_len encode
bad_line = refl

layer_without_name : refused (changed 26 1 (codes ", ,\n") the_game) ≡ Some (record { kind = kind.BadLine; line = 26 })
unfolding chars is_utf8 utf8_valid_len encode
layer_without_name = refl

-- LANGUAGE.md, faults: rules -------------------------------------------------------------------------------------------------

bad_bracket : refused (changed 30 1 (codes "[ > Player | Crate -> [ > Player | > Crate ]\n") the_game) ≡ Some (record { kind = kind.BadBracket; line = 30 })
unfolding chars is_utf8 utf8_valid_len encode
bad_bracket = refl

bad_bracket_too : map (λ rule. refused (changed 30 1 rule the_game)) (codes "[ A ] [ B ]\n"
    ∷ codes "[ A ] -> [ B ] -> [ C ]\n"
    ∷ codes "-> [ A ]\n"
    ∷ codes "[ A [ B ] ] -> cancel\n"
    ∷ codes "[ A ] B -> [ A ]\n"
    ∷ codes "[ A ] | [ B ] -> cancel\n"
    ∷ codes "[ A ] -> [ message ]\n"
    ∷ codes "startloop here\n" ∷ [])
    ≡ replicate 8 (Some (record { kind = kind.BadBracket; line = 30 }))
unfolding chars is_utf8 utf8_valid_len encode
bad_bracket_too = refl

unknown_word : refused (changed 30 1 (codes "[ > Player | Carte ] -> [ > Player | > Crate ]\n") the_game) ≡ Some (record { kind = kind.UnknownWord; line = 30 })
unfolding chars is_utf8 utf8_valid_len encode
unknown_word = refl

unknown_word_too : map (λ rule. refused (changed 30 1 rule the_game)) (codes "A [ A ] -> [ B ]\n"
    ∷ codes "> [ A ] -> [ B ]\n"
    ∷ codes "[ A ] late -> [ B ]\n"
    ∷ codes "[ A again ] -> [ B ]\n"
    ∷ codes "[ > ] -> [ A ]\n"
    ∷ codes "[ no > A ] -> [ B ]\n"
    ∷ codes "[ A ] -> cancel [ B ]\n"
    ∷ codes "[ A ] -> [ B ] sfx11\n" ∷ [])
    ≡ replicate 8 (Some (record { kind = kind.UnknownWord; line = 30 }))
unfolding chars is_utf8 utf8_valid_len encode
unknown_word_too = refl

rows_differ : refused (changed 30 1 (codes "[ > Player | Crate ] -> [ > Player ]\n") the_game) ≡ Some (record { kind = kind.RowsDiffer; line = 30 })
unfolding chars is_utf8 utf8_valid_len encode
rows_differ = refl

nothing_right : refused (changed 30 1 (codes "[ > Player | Crate ] ->\n") the_game) ≡ Some (record { kind = kind.NothingRight; line = 30 })
unfolding chars is_utf8 utf8_valid_len encode
nothing_right = refl

name_twice : refused (changed 30 1 (codes "[ > Player | @ Crate ] -> [ > Player | > Crate ]\n") the_game) ≡ Some (record { kind = kind.NameTwice; line = 30 })
unfolding chars is_utf8 utf8_valid_len encode
name_twice = refl

no_aggregate : refused (changed 30 1 (codes "[ > Player | no @ ] -> [ Player | ]\n") the_game) ≡ Some (record { kind = kind.NoAggregate; line = 30 })
unfolding chars is_utf8 utf8_valid_len encode
no_aggregate = refl

unbound : refused (changed 30 1 (codes "[ AT | AT | Crate ] -> [ | | Crate AT ]\n") the_game) ≡ Some (record { kind = kind.Unbound; line = 30 })
unfolding chars is_utf8 utf8_valid_len encode
unbound = refl

unbound_too : map (λ rule. refused (changed 30 1 rule the_game)) (codes "[ A ] -> [ AT ]\n"
    ∷ codes "[ no AT ] -> [ AT ]\n"
    ∷ codes "[ A ] -> [ moving A ]\n"
    ∷ codes "[ horizontal A ] -> [ parallel A ]\n"
    ∷ codes "[ moving A | moving B ] -> [ moving B | ]\n" ∷ [])
    ≡ replicate 5 (Some (record { kind = kind.Unbound; line = 30 }))
unfolding chars is_utf8 utf8_valid_len encode
unbound_too = refl

late_move : refused (changed 30 1 (codes "late [ > Player | Crate ] -> [ Player | ]\n") the_game) ≡ Some (record { kind = kind.LateMove; line = 30 })
unfolding chars is_utf8 utf8_valid_len encode
late_move = refl

plus_alone : refused (changed 30 1 (codes "+ [ > Player | Crate ] -> [ > Player | > Crate ]\n") the_game) ≡ Some (record { kind = kind.PlusAlone; line = 30 })
unfolding chars is_utf8 utf8_valid_len encode
plus_alone = refl

plus_late : refused (changed 30 1 (codes "[ A ] -> [ B ]\n+ late [ B ] -> [ C ]\n") the_game) ≡ Some (record { kind = kind.PlusLate; line = 31 })
unfolding chars is_utf8 utf8_valid_len encode
plus_late = refl

loop : refused (changed 30 1 (codes "startloop\n[ A ] -> [ B ]\n") the_game) ≡ Some (record { kind = kind.Loop; line = 30 })
unfolding chars is_utf8 utf8_valid_len encode
loop = refl

ellipsis : refused (changed 30 1 (codes "[ > Player | ... ] -> [ > Player | ... ]\n") the_game) ≡ Some (record { kind = kind.Ellipsis; line = 30 })
unfolding chars is_utf8 utf8_valid_len encode
ellipsis = refl

ellipsis_too : map (λ rule. refused (changed 30 1 rule the_game)) (codes "[ A | ... | ... | C ] -> cancel\n"
    ∷ codes "[ A | ... B | C ] -> cancel\n"
    ∷ codes "[ A | ... | C ] -> [ A | B | C ]\n"
    ∷ codes "[ A | ... | B | ... | C | ... | D ] -> cancel\n" ∷ [])
    ≡ replicate 4 (Some (record { kind = kind.Ellipsis; line = 30 }))
unfolding chars is_utf8 utf8_valid_len encode
ellipsis_too = refl

not_in_profile : refused (changed 30 1 (codes "random [ A ] -> [ B ]\n") the_game) ≡ Some (record { kind = kind.NotInProfile; line = 30 })
unfolding chars is_utf8 utf8_valid_len encode
not_in_profile = refl

too_many_rules : refused (changed 30 1 (many 1025 (codes "[ A ] -> [ B ]\n")) the_game) ≡ Some (record { kind = kind.TooManyRules; line = 1054 })
unfolding chars is_utf8 utf8_valid_len encode
too_many_rules = refl

-- LANGUAGE.md, faults: levels ------------------------------------------------------------------------------------------------

unknown_glyph : refused (changed 34 1 (codes "#P*o? #\n") the_game) ≡ Some (record { kind = kind.UnknownGlyph; line = 34 })
unfolding chars is_utf8 utf8_valid_len encode
unknown_glyph = refl

property_glyph : refused (changed 34 1 (codes "#P*Q#\n") (changed 23 1 (codes "Q = A or Target\n") the_game)) ≡ Some (record { kind = kind.PropertyGlyph; line = 34 })
unfolding chars is_utf8 utf8_valid_len encode
property_glyph = refl

too_large : refused (changed 34 1 (codes "P" ++ (replicate 256 46 ++ codes "\n")) the_game)
    ≡ Some (record { kind = kind.TooLarge; line = 34 })
unfolding chars is_utf8 utf8_valid_len encode
too_large = refl

no_level : refused (changed 34 1 (codes "message To be continued\n") the_game) ≡ Some (record { kind = kind.NoLevel; line = 33 })
unfolding chars is_utf8 utf8_valid_len encode
no_level = refl

too_many_entries : refused (changed 34 1 (many 1000 (codes "message\n")) the_game) ≡ Some (record { kind = kind.TooManyEntries; line = 1033 })
unfolding chars is_utf8 utf8_valid_len encode
too_many_entries = refl

-- LANGUAGE.md, faults: win conditions ----------------------------------------------------------------------------------------

bad_win : refused (changed 32 1 (codes "All Target Crate\n") the_game) ≡ Some (record { kind = kind.BadWin; line = 32 })
unfolding chars is_utf8 utf8_valid_len encode
bad_win = refl

unknown_name_in_win : refused (changed 32 1 (codes "All Target on Box\n") the_game) ≡ Some (record { kind = kind.UnknownWinName; line = 32 })
unfolding chars is_utf8 utf8_valid_len encode
unknown_name_in_win = refl
