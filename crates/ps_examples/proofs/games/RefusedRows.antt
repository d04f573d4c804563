-- Texts that are refused, each with its fault and line, and texts that are nearly so, worked by hand.
use Rattle.std.proofs.Common.{◌≡◌, ℕ, List, [], ◌∷◌, ◌++◌, map, length, refl, Option, Some, None}
use Rattle.std.specs.Prelude.{codes, take, replicate}
use Rattle.std.specs.List.{range_with_len}
use Rattle.std.specs.Str.{chars, is_utf8}
use Rattle.std.specs.Str.Lossy.{utf8_valid_len}
use Rattle.std.specs.Fmt.{digits}
use Rattle.std.proofs.Math.Utf8.{encode}
use Rattle.ps_model.specs.board.Turns.{turn}
use Rattle.ps_model.specs.game.Outputs.{opening_step}
use Rattle.ps_model.specs.board.Programs.{group, program_run}
use Rattle.ps_model.specs.session.StartSteps.{all_start_turns}
use Rattle.ps_model.specs.session.KeySteps.{all_key_turns}
use Rattle.ps_model.specs.declared.faults.Fault.{Fault}
use Rattle.ps_model.specs.declared.faults.FaultKind.TheVariants as kind
use Rattle.ps_model.specs.text.Lines.{raw_lines}
use Rattle.ps_examples.proofs.games.BaseText.{base_head, base_game}
use Rattle.ps_examples.proofs.games.WholeRuns.{written, refused}
use Rattle.ps_examples.proofs.games.ChangedTexts.{changed, many, objects, names_of_objects}

-- rules
rows_of_other_lengths : refused (base_game (codes "[ A | B ] -> [ A ]\n") ([]) (codes "P\n")) ≡ Some (record { kind = kind.RowsDiffer; line = 30 })
unfolding chars digits is_utf8 utf8_valid_len encode group program_run all_start_turns all_key_turns turn opening_step
rows_of_other_lengths = refl

nothing_on_the_right : refused (base_game (codes "[ A ] ->\n") ([]) (codes "P\n")) ≡ Some (record { kind = kind.NothingRight; line = 30 })
unfolding chars digits is_utf8 utf8_valid_len encode group program_run all_start_turns all_key_turns turn opening_step
nothing_on_the_right = refl

name_twice : refused (base_game (codes "[ A A ] -> [ A ]\n") ([]) (codes "P\n")) ≡ Some (record { kind = kind.NameTwice; line = 30 })
unfolding chars digits is_utf8 utf8_valid_len encode group program_run all_start_turns all_key_turns turn opening_step
name_twice = refl

no_aggregate : refused (base_game (codes "[ no @ ] -> [ A ]\n") ([]) (codes "P\n")) ≡ Some (record { kind = kind.NoAggregate; line = 30 })
unfolding chars digits is_utf8 utf8_valid_len encode group program_run all_start_turns all_key_turns turn opening_step
no_aggregate = refl

late_move : refused (base_game (codes "late [ > A ] -> [ A ]\n") ([]) (codes "P\n")) ≡ Some (record { kind = kind.LateMove; line = 30 })
unfolding chars digits is_utf8 utf8_valid_len encode group program_run all_start_turns all_key_turns turn opening_step
late_move = refl

plus_alone : refused (base_game (codes "+ [ A ] -> [ B ]\n") ([]) (codes "P\n")) ≡ Some (record { kind = kind.PlusAlone; line = 30 })
unfolding chars digits is_utf8 utf8_valid_len encode group program_run all_start_turns all_key_turns turn opening_step
plus_alone = refl

loop_without_end : refused (base_game (codes "startloop\n") ([]) (codes "P\n")) ≡ Some (record { kind = kind.Loop; line = 30 })
unfolding chars digits is_utf8 utf8_valid_len encode group program_run all_start_turns all_key_turns turn opening_step
loop_without_end = refl

ellipsis_first : refused (base_game (codes "[ ... | A ] -> [ ... | A ]\n") ([]) (codes "P\n")) ≡ Some (record { kind = kind.Ellipsis; line = 30 })
unfolding chars digits is_utf8 utf8_valid_len encode group program_run all_start_turns all_key_turns turn opening_step
ellipsis_first = refl

impossible : refused (base_game (codes "[ Player Wall ] -> [ Player ]\n") ([]) (codes "P\n")) ≡ Some (record { kind = kind.Impossible; line = 30 })
unfolding chars digits is_utf8 utf8_valid_len encode group program_run all_start_turns all_key_turns turn opening_step
impossible = refl

random_rule : refused (base_game (codes "random [ A ] -> [ B ]\n") ([]) (codes "P\n")) ≡ Some (record { kind = kind.NotInProfile; line = 30 })
unfolding chars digits is_utf8 utf8_valid_len encode group program_run all_start_turns all_key_turns turn opening_step
random_rule = refl

-- readings are counted: 3,125 in one direction, 12,500 in four
five_moving_in_one_direction : refused (base_game (codes "right [ moving A | moving A | moving A | moving A | moving A ] -> cancel\n") ([]) (codes "P\n")) ≡ None
unfolding chars digits is_utf8 utf8_valid_len encode group program_run all_start_turns all_key_turns turn opening_step
five_moving_in_one_direction = refl

five_moving_in_four_directions : refused (base_game (codes "[ moving A | moving A | moving A | moving A | moving A ] -> cancel\n") ([]) (codes "P\n")) ≡ Some (record { kind = kind.TooManyReadings; line = 30 })
unfolding chars digits is_utf8 utf8_valid_len encode group program_run all_start_turns all_key_turns turn opening_step
five_moving_in_four_directions = refl

-- twelve occurrences of a property of two members are 4,096 readings, thirteen are too many
thirteen_members : refused (base_game (codes "right [ AT | AT | AT | AT | AT | AT | AT | AT | AT | AT | AT | AT | AT ] -> cancel\n") ([]) (codes "P\n")) ≡ Some (record { kind = kind.TooManyReadings; line = 30 })
unfolding chars digits is_utf8 utf8_valid_len encode group program_run all_start_turns all_key_turns turn opening_step
thirteen_members = refl

-- a rule with twelve of them; sixteen such rules have as many readings as all rules may, seventeen have too many
abbrev twelve_members : List ℕ
twelve_members = codes "right [ AT | AT | AT | AT | AT | AT | AT | AT | AT | AT | AT | AT ] -> cancel\n"

sixteen_rules : refused (base_game (many 16 twelve_members) ([]) (codes "P\n")) ≡ None
unfolding chars digits is_utf8 utf8_valid_len encode group program_run all_start_turns all_key_turns turn opening_step
sixteen_rules = refl

seventeen_rules : refused (base_game (many 17 twelve_members) ([]) (codes "P\n")) ≡ Some (record { kind = kind.TooManyReadings; line = 46 })
unfolding chars digits is_utf8 utf8_valid_len encode group program_run all_start_turns all_key_turns turn opening_step
seventeen_rules = refl

-- conditions and levels
unknown_name_in_condition : refused (base_game ([]) (codes "No Q\n") (codes "P\n")) ≡ Some (record { kind = kind.UnknownWinName; line = 31 })
unfolding chars digits is_utf8 utf8_valid_len encode group program_run all_start_turns all_key_turns turn opening_step
unknown_name_in_condition = refl

unknown_glyph : refused (base_game ([]) ([]) (codes "P?\n")) ≡ Some (record { kind = kind.UnknownGlyph; line = 32 })
unfolding chars digits is_utf8 utf8_valid_len encode group program_run all_start_turns all_key_turns turn opening_step
unknown_glyph = refl

property_glyph : refused (changed 23 1 (codes "Q = A or Target\n") (base_game ([]) ([]) (codes "PQ\n"))) ≡ Some (record { kind = kind.PropertyGlyph; line = 32 })
unfolding chars digits is_utf8 utf8_valid_len encode group program_run all_start_turns all_key_turns turn opening_step
property_glyph = refl

no_level : refused (base_game ([]) ([]) ([])) ≡ Some (record { kind = kind.NoLevel; line = 31 })
unfolding chars digits is_utf8 utf8_valid_len encode group program_run all_start_turns all_key_turns turn opening_step
no_level = refl

-- names
no_layer : refused (changed 28 1 (codes "A B C\n") (base_game ([]) ([]) (codes "P\n"))) ≡ Some (record { kind = kind.NoLayer; line = 19 })
unfolding chars digits is_utf8 utf8_valid_len encode group program_run all_start_turns all_key_turns turn opening_step
no_layer = refl

-- the base text with `count` more objects, all on its last layer
abbrev with_objects : ℕ → List ℕ
with_objects count = changed 21 0 (objects count) (changed 28 1 (codes "A B C D" ++ (names_of_objects count ++ codes "\n")) (base_game ([]) ([]) (codes "P\n")))

-- 512 objects are few enough, 513 aren't
as_many_objects : refused (with_objects 503) ≡ None
unfolding chars digits is_utf8 utf8_valid_len encode group program_run all_start_turns all_key_turns turn opening_step
as_many_objects = refl

one_object_more : refused (with_objects 504) ≡ Some (record { kind = kind.TooManyNames; line = 1027 })
unfolding chars digits is_utf8 utf8_valid_len encode group program_run all_start_turns all_key_turns turn opening_step
one_object_more = refl

-- a last comment that is never closed; a comment that hides all that follows
comment_at_the_end : written (base_game [] [] (codes "P.\n(never closed")) [] ≡ Some (codes "= T\n# level 1\nP.\n\n* end of keys\n")
unfolding chars digits is_utf8 utf8_valid_len encode group program_run all_start_turns all_key_turns turn opening_step
comment_at_the_end = refl

comment_to_the_end : refused (base_head ++ codes "RULES (\nWINCONDITIONS\nLEVELS\nP.\n") ≡ Some (record { kind = kind.NoSection; line = 32 })
unfolding chars digits is_utf8 utf8_valid_len encode group program_run all_start_turns all_key_turns turn opening_step
comment_to_the_end = refl

-- sections
sections_turned_round : refused (codes "LEGEND\nOBJECTS\n") ≡ Some (record { kind = kind.SectionOrder; line = 2 })
unfolding chars digits is_utf8 utf8_valid_len encode group program_run all_start_turns all_key_turns turn opening_step
sections_turned_round = refl

wrong_byte : refused (codes "ti\n" ++ 255 ∷ []) ≡ Some (record { kind = kind.NotUtf8; line = 2 })
unfolding chars digits is_utf8 utf8_valid_len encode group program_run all_start_turns all_key_turns turn opening_step
wrong_byte = refl

-- short rows are filled with their own last character
short_rows : written (base_game ([]) ([]) (codes "#P\n##.*\n#\n")) ([])
    ≡ Some (codes "= T\n# level 1\n#P\n##\n##\n\n* end of keys\n")
unfolding chars digits is_utf8 utf8_valid_len encode group program_run all_start_turns all_key_turns turn opening_step
short_rows = refl

-- two grounds: the first ground met in the level fills
two_grounds : written (codes "title T\nOBJECTS\nGrass g\ngreen\nSand s\nyellow\nPlayer P\nwhite\nLEGEND\nBackground = Grass or Sand\nCOLLISIONLAYERS\nBackground\nPlayer\nLEVELS\nPsP\n") (codes "d")
    ≡ Some (codes "= T\n# level 1\nPsP\n\nsPP\n\n* end of keys\n")
unfolding chars digits is_utf8 utf8_valid_len encode group program_run all_start_turns all_key_turns turn opening_step
two_grounds = refl

-- texts that are cut off -----------------------------------------------------------------------------------------------------

-- the first `count` bytes of the text of a game that pushes; it has 327
abbrev cut : ℕ → List ℕ
cut count = take count (base_game (codes "[ > Player | Crate ] -> [ > Player | > Crate ]\n") (codes "All Target on Crate\n") (codes "#P*O#\n"))

-- a section is missing, which is told at the last line
abbrev without_section : ℕ → Option Fault
without_section count = Some (record { kind = kind.NoSection; line = length (raw_lines (cut count)) })

-- without the word LEVELS a section is missing; without a row below it, a level
cut_in_names : map (λ count. refused (cut count)) (range_with_len 0 150) ≡ map without_section (range_with_len 0 150)
unfolding chars digits is_utf8 utf8_valid_len encode
cut_in_names = refl

cut_in_layers_or_rules : map (λ count. refused (cut count)) (range_with_len 150 100) ≡ map without_section (range_with_len 150 100)
unfolding chars digits is_utf8 utf8_valid_len encode
cut_in_layers_or_rules = refl

cut_in_rules_or_conditions : map (λ count. refused (cut count)) (range_with_len 250 70) ≡ map without_section (range_with_len 250 70)
unfolding chars digits is_utf8 utf8_valid_len encode
cut_in_rules_or_conditions = refl

cut_in_levels : map (λ count. refused (cut count)) (range_with_len 320 8) ≡ replicate 2 (Some (record { kind = kind.NoLevel; line = 33 })) ++ replicate 6 None
unfolding chars digits is_utf8 utf8_valid_len encode
cut_in_levels = refl
