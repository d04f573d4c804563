-- Corners of the language, worked by hand: from the bytes of a text to the bytes that are written. Each row tells two
-- meanings apart that most games don't.
use Rattle.std.proofs.Common.{◌≡◌, List, ℕ, [], ◌++◌, refl, Some}
use Rattle.std.specs.Prelude.{codes, take, drop}
use Rattle.std.specs.List.{repeat}
use Rattle.std.specs.Str.{chars, is_utf8}
use Rattle.std.specs.Str.Lossy.{utf8_valid_len}
use Rattle.std.specs.Fmt.{digits}
use Rattle.std.proofs.Math.Utf8.{encode}
use Rattle.ps_model.specs.board.Turns.{turn}
use Rattle.ps_model.specs.game.Outputs.{opening_step}
use Rattle.ps_model.specs.board.Programs.{group, program_run}
use Rattle.ps_model.specs.session.StartSteps.{all_start_turns}
use Rattle.ps_model.specs.session.KeySteps.{all_key_turns}
use Rattle.ps_model.specs.declared.faults.FaultKind.TheVariants as kind
use Rattle.ps_examples.proofs.games.BaseText.{base_head, base_game, with_option}
use Rattle.ps_examples.proofs.games.WholeRuns.{written, refused}

-- the base game with further lines at the end of its legend
abbrev with_legend : List ℕ → List ℕ → List ℕ → List ℕ
with_legend lines rules rows = take 165 base_head ++ (lines ++ drop 165 (base_game rules [] rows))

-- directions and readings ---------------------------------------------------------------------------------------------

-- left comes before right, in whichever order the two words are written
direction_words_in_one_order : written (base_game (codes "right left [ A | B ] -> [ C | ]\n") [] (codes "BAB\n")) (codes "x")
    ≡ Some (codes "= T\n# level 1\nBAB\n\n.CB\n\n* end of keys\n")
unfolding chars digits is_utf8 utf8_valid_len encode group program_run all_start_turns all_key_turns turn opening_step
direction_words_in_one_order = refl

-- a rule without a direction word goes up first
up_comes_first : written (base_game (codes "[ A | B ] -> [ C | ]\n") [] (codes ".B.\nBAB\n.B.\n")) (codes "x")
    ≡ Some (codes "= T\n# level 1\n.B.\nBAB\n.B.\n\n...\nBCB\n.B.\n\n* end of keys\n")
unfolding chars digits is_utf8 utf8_valid_len encode group program_run all_start_turns all_key_turns turn opening_step
up_comes_first = refl

-- a rule of single cells without a direction word finds them column by column
single_cells_in_columns : written (base_game (codes "[ A ] [ B ] -> [ C ] [ D ]\n") [] (codes ".AB\nA..\n")) (codes "x")
    ≡ Some (codes "= T\n# level 1\n.AB\nA..\n\n.AD\nC..\n\n* end of keys\n")
unfolding chars digits is_utf8 utf8_valid_len encode group program_run all_start_turns all_key_turns turn opening_step
single_cells_in_columns = refl

-- a rule of single cells with `horizontal` finds them row by row
single_cells_in_rows : written (base_game (codes "horizontal [ A ] [ B ] -> [ C ] [ D ]\n") [] (codes ".AB\nA..\n")) (codes "x")
    ≡ Some (codes "= T\n# level 1\n.AB\nA..\n\n.CD\nA..\n\n* end of keys\n")
unfolding chars digits is_utf8 utf8_valid_len encode group program_run all_start_turns all_key_turns turn opening_step
single_cells_in_rows = refl

-- a rule of single cells is used once a round, in the first of its directions: two hundred times before its group ends
single_cells_in_one_direction : written (base_game (codes "horizontal [ A ] [ B ] [ C ] -> [ B ] [ C ] [ A ]\n") [] (codes "ABC\n")) (codes "x")
    ≡ Some (codes "= T\n# level 1\nABC\n\nCAB\n\n* end of keys\n")
unfolding chars digits is_utf8 utf8_valid_len encode group program_run all_start_turns all_key_turns turn opening_step
single_cells_in_one_direction = refl

-- `^` is a quarter turn to the left: up for a rule that goes right, down for one that goes left
quarter_turns : written (base_game (codes "[ > Player | A ] -> [ > Player | ^ A ]\n") [] (codes "...\nAPA\n...\n")) (codes "daa")
    ≡ Some (codes "= T\n# level 1\n...\nAPA\n...\n\n..A\nA.P\n...\n\n..A\nAP.\n...\n\n..A\nP..\nA..\n\n* end of keys\n")
unfolding chars digits is_utf8 utf8_valid_len encode group program_run all_start_turns all_key_turns turn opening_step
quarter_turns = refl

-- `parallel` is a move along the rule, towards its end or away from it
parallel_goes_both_ways : written (base_game (codes "right [ parallel Player | A ] -> [ parallel Player | C ]\n") [] (codes ".PA\n")) (codes "a")
    ≡ Some (codes "= T\n# level 1\n.PA\n\nP.C\n\n* end of keys\n")
unfolding chars digits is_utf8 utf8_valid_len encode group program_run all_start_turns all_key_turns turn opening_step
parallel_goes_both_ways = refl

-- a Player who acts isn't `stationary`
action_is_a_move : written (base_game (codes "[ stationary Player ] -> [ Crate ]\n") [] (codes "P.\n")) (codes "dx")
    ≡ Some (codes "= T\n# level 1\nP.\n\n.P\n\n.P\n\n* end of keys\n")
unfolding chars digits is_utf8 utf8_valid_len encode group program_run all_start_turns all_key_turns turn opening_step
action_is_a_move = refl

-- of two words that leave a choice, the first keeps its move longest: left with right comes before right with left
first_movement_word_slowest : written (base_game (codes "right [ A | B | Wall ] -> [ right A | left B | Wall ]\nright [ Wall | A | B ] -> [ Wall | left A | right B ]\nright [ horizontal A | horizontal B ] [ D ] -> [ A | ] [ ]\n") [] (codes "AB#ABD\n")) (codes "x")
    ≡ Some (codes "= T\n# level 1\nAB#ABD\n\nAB#A..\n\n* end of keys\n")
unfolding chars digits is_utf8 utf8_valid_len encode group program_run all_start_turns all_key_turns turn opening_step
first_movement_word_slowest = refl

-- all members of a property are tried under one move before the next move is
moves_slower_than_members : written (base_game (codes "right [ Crate | Target ] -> [ left Crate | Target ]\nright [ Crate | A ] -> [ right Crate | A ]\nright [ horizontal Crate | AT ] [ D ] -> [ Crate | ] [ ]\n") [] (codes "*O#*AD\n")) (codes "x")
    ≡ Some (codes "= T\n# level 1\n*O#*AD\n\n*.#.A.\n\n* end of keys\n")
unfolding chars digits is_utf8 utf8_valid_len encode group program_run all_start_turns all_key_turns turn opening_step
moves_slower_than_members = refl

-- `>` on the right alone is used in all directions too: of two hundred rounds the last one ends with right
sign_on_the_right_alone : written (base_game (codes "[ Player ] -> [ > Player ]\n") [] (codes "P.\n")) (codes "x")
    ≡ Some (codes "= T\n# level 1\nP.\n\n.P\n\n* end of keys\n")
unfolding chars digits is_utf8 utf8_valid_len encode group program_run all_start_turns all_key_turns turn opening_step
sign_on_the_right_alone = refl

-- a word on the right takes its move from the same word on the left: `horizontal` doesn't decide `parallel`
words_bound_as_written : refused (base_game (codes "[ horizontal Player | Crate ] -> [ horizontal Player | parallel Crate ]\n") [] (codes "P\n")) ≡ Some (record { kind = kind.Unbound; line = 30 })
unfolding chars digits is_utf8 utf8_valid_len encode group program_run all_start_turns all_key_turns turn opening_step
words_bound_as_written = refl

-- a synonym of a property is that property, also where the right takes its member from the left
synonyms_bind : written (with_legend (codes "TA = AT\n") (codes "right [ AT | AT ] -> [ TA | ]\n") (codes "AO\n")) (codes "x")
    ≡ Some (codes "= T\n# level 1\nAO\n\nA.\n\n* end of keys\n")
unfolding chars digits is_utf8 utf8_valid_len encode group program_run all_start_turns all_key_turns turn opening_step
synonyms_bind = refl

-- a property of one layer that stays in its cell isn't split: all its members are found together, from the left
loose_property_in_one_go : written (with_legend (codes "AC = A or C\n") (codes "right [ AC | Crate ] [ B ] -> [ AC | ] [ ]\n") (codes "C*A*B\n")) (codes "x")
    ≡ Some (codes "= T\n# level 1\nC*A*B\n\nC.A*.\n\n* end of keys\n")
unfolding chars digits is_utf8 utf8_valid_len encode group program_run all_start_turns all_key_turns turn opening_step
loose_property_in_one_go = refl

-- a property that the right names in another cell is split: its first member is looked for in all places first
property_that_moves_on_is_split : written (with_legend (codes "AC = A or C\n") (codes "right [ AC | Crate ] [ B ] -> [ | AC ] [ ]\n") (codes "C*A*B\n")) (codes "x")
    ≡ Some (codes "= T\n# level 1\nC*A*B\n\nC*.A.\n\n* end of keys\n")
unfolding chars digits is_utf8 utf8_valid_len encode group program_run all_start_turns all_key_turns turn opening_step
property_that_moves_on_is_split = refl

-- a property isn't tried as a member on whose layer its cell names another object
two_of_a_layer_on_the_left : written (with_legend (codes "% = A and Target\n") (codes "[ AT A ] -> [ ]\n") (codes "%A\n")) (codes "x")
    ≡ Some (codes "= T\n# level 1\n%A\n\n.A\n\n* end of keys\n")
unfolding chars digits is_utf8 utf8_valid_len encode group program_run all_start_turns all_key_turns turn opening_step
two_of_a_layer_on_the_left = refl

-- a property isn't tried as a member on whose layer the right names another object beside it
two_of_a_layer_on_the_right : written (base_game (codes "right [ AT | ] -> [ | AT B ]\n") [] (codes "AO.\n")) (codes "x")
    ≡ Some (codes "= T\n# level 1\nAO.\n\nA.B\n\n* end of keys\n")
unfolding chars digits is_utf8 utf8_valid_len encode group program_run all_start_turns all_key_turns turn opening_step
two_of_a_layer_on_the_right = refl

-- rewriting -----------------------------------------------------------------------------------------------------------

-- `no` on the right takes the object away with its move, before the right puts it back
no_takes_the_move : written (base_game (codes "[ Player ] -> [ Player no Player ]\n") [] (codes "P.\n")) (codes "d")
    ≡ Some (codes "= T\n# level 1\nP.\n\nP.\n\n* end of keys\n")
unfolding chars digits is_utf8 utf8_valid_len encode group program_run all_start_turns all_key_turns turn opening_step
no_takes_the_move = refl

-- a property on the right keeps what stands there after `no`
no_before_a_loose_property : written (with_legend (codes "AC = A or C\n") (codes "[ AC ] -> [ AC no A ]\n") (codes "AC\n")) (codes "x")
    ≡ Some (codes "= T\n# level 1\nAC\n\n.C\n\n* end of keys\n")
unfolding chars digits is_utf8 utf8_valid_len encode group program_run all_start_turns all_key_turns turn opening_step
no_before_a_loose_property = refl

-- an object put in place of another takes over its move, where both sides name it without a word
kept_move_is_of_the_layer : written (base_game (codes "[ Player ] -> [ Crate ]\n") [] (codes "P.\n")) (codes "d")
    ≡ Some (codes "= T\n# level 1\nP.\n\n.*\n\n* end of keys\n")
unfolding chars digits is_utf8 utf8_valid_len encode group program_run all_start_turns all_key_turns turn opening_step
kept_move_is_of_the_layer = refl

-- an object put in place of another doesn't take over a move that the left asks for
asked_move_is_not_kept : written (base_game (codes "[ > Player ] -> [ Crate ]\n") [] (codes "P.\n")) (codes "d")
    ≡ Some (codes "= T\n# level 1\nP.\n\n*.\n\n* end of keys\n")
unfolding chars digits is_utf8 utf8_valid_len encode group program_run all_start_turns all_key_turns turn opening_step
asked_move_is_not_kept = refl

-- an object with a word on the left alone stands still
word_on_the_left_alone : written (base_game (codes "[ > Player | Crate ] -> [ Player | > Crate ]\n") [] (codes "P*.\n")) (codes "d")
    ≡ Some (codes "= T\n# level 1\nP*.\n\nP.*\n\n* end of keys\n")
unfolding chars digits is_utf8 utf8_valid_len encode group program_run all_start_turns all_key_turns turn opening_step
word_on_the_left_alone = refl

-- an object put where the left names nothing of its layer stands still, whatever moved there
new_object_stands_still : written (with_legend (codes "% = Crate and B\n") (codes "[ B ] -> [ right B ]\n[ Crate ] -> [ Crate A ]\n") (codes "%.\n")) (codes "x")
    ≡ Some (codes "= T\n# level 1\n%.\n\nA.\n\n* end of keys\n")
unfolding chars digits is_utf8 utf8_valid_len encode group program_run all_start_turns all_key_turns turn opening_step
new_object_stands_still = refl

-- a word before an aggregate asks for that move of all its objects
aggregate_asks_for_all : written (base_game (codes "[ Crate ] -> [ right Crate ]\n[ right @ ] -> [ A ]\n") [] (codes "@.\n")) (codes "x")
    ≡ Some (codes "= T\n# level 1\n@.\n\nO*\n\n* end of keys\n")
unfolding chars digits is_utf8 utf8_valid_len encode group program_run all_start_turns all_key_turns turn opening_step
aggregate_asks_for_all = refl

-- an empty cell of a rule fits every cell
empty_cell_fits_all : written (base_game (codes "[ ] -> [ A ]\n") [] (codes ".#\n")) (codes "x")
    ≡ Some (codes "= T\n# level 1\n.#\n\nAA\n\n* end of keys\n")
unfolding chars digits is_utf8 utf8_valid_len encode group program_run all_start_turns all_key_turns turn opening_step
empty_cell_fits_all = refl

-- a cell without objects is shown as `?`
cell_without_objects : written (base_game (codes "[ Background ] -> [ ]\n") [] (codes "P.\n")) (codes "x")
    ≡ Some (codes "= T\n# level 1\nP.\n\nP?\n\n* end of keys\n")
unfolding chars digits is_utf8 utf8_valid_len encode group program_run all_start_turns all_key_turns turn opening_step
cell_without_objects = refl

-- places, rounds and loops --------------------------------------------------------------------------------------------

-- a rule with an ellipsis that goes up takes the topmost end first
gaps_upwards : written (base_game (codes "up [ A | ... | B ] -> [ | ... | C ]\n") [] (codes "B\n.\nB\nA\n")) (codes "x")
    ≡ Some (codes "= T\n# level 1\nB\n.\nB\nA\n\nC\n.\nB\n.\n\n* end of keys\n")
unfolding chars digits is_utf8 utf8_valid_len encode group program_run all_start_turns all_key_turns turn opening_step
gaps_upwards = refl

-- of two places with the same leftmost end, the one with the smaller gap comes first, also to the left
least_gap_leftwards : written (base_game (codes "left [ A | ... | B ] -> [ C | ... | ]\n") [] (codes "BA.A\n")) (codes "x")
    ≡ Some (codes "= T\n# level 1\nBA.A\n\n.C.A\n\n* end of keys\n")
unfolding chars digits is_utf8 utf8_valid_len encode group program_run all_start_turns all_key_turns turn opening_step
least_gap_leftwards = refl

-- two cells before the ellipsis stand side by side, also to the left
long_part_leftwards : written (base_game (codes "left [ A | B | ... | C ] -> [ A | | ... | D ]\n") [] (codes "C.CBA\n")) (codes "x")
    ≡ Some (codes "= T\n# level 1\nC.CBA\n\nD.C.A\n\n* end of keys\n")
unfolding chars digits is_utf8 utf8_valid_len encode group program_run all_start_turns all_key_turns turn opening_step
long_part_leftwards = refl

-- the places of the first row change fastest
first_row_fastest : written (base_game (codes "right [ A | ] [ | B ] -> [ A | no B ] [ no A | B ]\n") [] (codes "A..B.AB\n")) (codes "x")
    ≡ Some (codes "= T\n# level 1\nA..B.AB\n\nA..B.A.\n\n* end of keys\n")
unfolding chars digits is_utf8 utf8_valid_len encode group program_run all_start_turns all_key_turns turn opening_step
first_row_fastest = refl

-- the repeat of the first loop is one less for the second, which ends a pass earlier
loops_share_their_repeats : written (base_game (codes "startloop\n[ D ] -> [ A ]\nendloop\nstartloop\n[ C ] -> [ A ]\n[ B ] -> [ C ]\n[ A ] -> [ B ]\nendloop\n") [] (codes "D\n")) (codes "x")
    ≡ Some (codes "= T\n# level 1\nD\n\nC\n\n* end of keys\n")
unfolding chars digits is_utf8 utf8_valid_len encode group program_run all_start_turns all_key_turns turn opening_step
loops_share_their_repeats = refl

-- twenty loops, each of which repeats ten times, are within the limit: what stands after them is run
two_hundred_repeats : written (base_game (repeat 10 (codes "startloop\n[ C ] -> [ A ]\nright [ A | ] -> [ | C ]\nendloop\nstartloop\n[ C ] -> [ A ]\nleft [ A | ] -> [ | C ]\nendloop\n") ++ codes "[ A ] -> [ B ]\n") [] (codes "A.........\n")) (codes "x")
    ≡ Some (codes "= T\n# level 1\nA.........\n\nB.........\n\n* end of keys\n")
unfolding chars digits is_utf8 utf8_valid_len encode group program_run all_start_turns all_key_turns turn opening_step
two_hundred_repeats = refl

-- with one repeat before them, the last of these is over the limit: what stands after them isn't run
one_repeat_more : written (base_game (codes "startloop\n[ D ] -> [ A ]\nendloop\n" ++ (repeat 10 (codes "startloop\n[ C ] -> [ A ]\nright [ A | ] -> [ | C ]\nendloop\nstartloop\n[ C ] -> [ A ]\nleft [ A | ] -> [ | C ]\nendloop\n") ++ codes "[ A ] -> [ B ]\n")) [] (codes "D.........\n")) (codes "x")
    ≡ Some (codes "= T\n# level 1\nD.........\n\nA.........\n\n* end of keys\n")
unfolding chars digits is_utf8 utf8_valid_len encode group program_run all_start_turns all_key_turns turn opening_step
one_repeat_more = refl

-- a cell that is changed and changed back has changed: where no repeat is left, what stands after such a loop isn't
-- run
changed_back_counts : written (base_game (repeat 10 (codes "startloop\n[ C ] -> [ A ]\nright [ A | ] -> [ | C ]\nendloop\nstartloop\n[ C ] -> [ A ]\nleft [ A | ] -> [ | C ]\nendloop\n") ++ codes "startloop\n[ A ] [ A ] -> [ B ] [ A ]\nendloop\n[ A ] -> [ B ]\n") [] (codes "A.........\n")) (codes "x")
    ≡ Some (codes "= T\n# level 1\nA.........\n\nA.........\n\n* end of keys\n")
unfolding chars digits is_utf8 utf8_valid_len encode group program_run all_start_turns all_key_turns turn opening_step
changed_back_counts = refl

-- after a loop that never ends the turn goes on with the movement and the late rules
behind_a_stopped_loop : written (base_game (codes "startloop\n[ C ] -> [ A ]\n[ B ] -> [ C ]\n[ A ] -> [ B ]\nendloop\n[ B ] -> [ D ]\nlate [ Player ] [ B ] -> [ Crate ] [ B ]\n") [] (codes "P.A\n")) (codes "d")
    ≡ Some (codes "= T\n# level 1\nP.A\n\n.*B\n\n* end of keys\n")
unfolding chars digits is_utf8 utf8_valid_len encode group program_run all_start_turns all_key_turns turn opening_step
behind_a_stopped_loop = refl

-- movement ------------------------------------------------------------------------------------------------------------

-- who doesn't get its cell stays, and so do those after it
loser_holds_up_its_row : written (base_game (codes "[ A ] -> [ right A ]\n[ B ] -> [ left B ]\n[ C ] -> [ up C ]\n[ D ] -> [ down D ]\n") [] (codes "A.BB\n")) (codes "x")
    ≡ Some (codes "= T\n# level 1\nA.BB\n\n.ABB\n\n* end of keys\n")
unfolding chars digits is_utf8 utf8_valid_len encode group program_run all_start_turns all_key_turns turn opening_step
loser_holds_up_its_row = refl

-- a cell that is left goes to the least of those who want it, where none is above its own number
least_of_all_where_none_is_above : written (base_game (codes "[ A ] -> [ right A ]\n[ B ] -> [ left B ]\n[ C ] -> [ up C ]\n[ D ] -> [ down D ]\n") [] (codes ".D.\nAA.\n")) (codes "x")
    ≡ Some (codes "= T\n# level 1\n.D.\nAA.\n\n.D.\n.AA\n\n* end of keys\n")
unfolding chars digits is_utf8 utf8_valid_len encode group program_run all_start_turns all_key_turns turn opening_step
least_of_all_where_none_is_above = refl

-- commands ------------------------------------------------------------------------------------------------------------

-- `cancel` drops the messages of rules before it
cancel_empties_the_queue : written (base_game (codes "[ Player ] -> message One\n[ Player ] -> cancel\n") [] (codes "P.\n")) (codes "d")
    ≡ Some (codes "= T\n# level 1\nP.\n\nP.\n\n* end of keys\n")
unfolding chars digits is_utf8 utf8_valid_len encode group program_run all_start_turns all_key_turns turn opening_step
cancel_empties_the_queue = refl

-- `cancel` comes through after `restart`, and drops its message
cancel_behind_restart : written (base_game (codes "[ Player ] -> restart message One\n[ Player ] -> cancel message Two\n") [] (codes "P.\n")) (codes "d")
    ≡ Some (codes "= T\n# level 1\nP.\n\nP.\n\n! Two\n* end of keys\n")
unfolding chars digits is_utf8 utf8_valid_len encode group program_run all_start_turns all_key_turns turn opening_step
cancel_behind_restart = refl

-- after `restart` neither a win nor a message comes through
nothing_behind_restart : written (base_game (codes "[ action Player ] -> restart\n[ action Player ] -> win message No\n") [] (codes "P.\n")) (codes "dx")
    ≡ Some (codes "= T\n# level 1\nP.\n\n.P\n\nP.\n\n* end of keys\n")
unfolding chars digits is_utf8 utf8_valid_len encode group program_run all_start_turns all_key_turns turn opening_step
nothing_behind_restart = refl

-- a turn that is cancelled doesn't win, though all win conditions hold
no_win_where_cancelled : written (base_game (codes "[ > Player | Wall ] -> cancel\n") (codes "Some Player\n") (codes "P#\n")) (codes "dx")
    ≡ Some (codes "= T\n# level 1\nP#\n\nP#\n\nP#\n\n* level 1 done\n* the end\n")
unfolding chars digits is_utf8 utf8_valid_len encode group program_run all_start_turns all_key_turns turn opening_step
no_win_where_cancelled = refl

-- of several messages the first is shown, that of a plain rule before that of a late one
first_message : written (base_game (codes "late [ Player ] -> message Late\n[ Player ] -> message One\n[ Player ] -> message Two\n") [] (codes "P.\n")) (codes "d")
    ≡ Some (codes "= T\n# level 1\nP.\n\n.P\n\n! One\n* end of keys\n")
unfolding chars digits is_utf8 utf8_valid_len encode group program_run all_start_turns all_key_turns turn opening_step
first_message = refl

-- a message without a text is shown, and waits
message_without_text : written (base_game (codes "[ Player ] -> message\n") [] (codes "P..\n")) (codes "ddxd")
    ≡ Some (codes "= T\n# level 1\nP..\n\n.P.\n\n! \n..P\n\n! \n* end of keys\n")
unfolding chars digits is_utf8 utf8_valid_len encode group program_run all_start_turns all_key_turns turn opening_step
message_without_text = refl

-- again turns come after the message of the key that asks for them, and one that wins counts though nothing changes
message_before_again_turns : written (base_game (codes "[ B ] -> win\n[ action Player ] [ A ] -> [ Player ] [ B ] again message Wait\n") [] (codes "PA\n")) (codes "xdx")
    ≡ Some (codes "= T\n# level 1\nPA\n\nPB\n\n! Wait\nPB\n\n* level 1 done\n* the end\n")
unfolding chars digits is_utf8 utf8_valid_len encode group program_run all_start_turns all_key_turns turn opening_step
message_before_again_turns = refl

-- after a win no again turn follows
win_before_again : written (base_game (codes "[ B ] -> [ C ]\n[ action Player ] [ A ] -> [ Player ] [ B ] again win\n") [] (codes "PA\n\nP\n")) (codes "x")
    ≡ Some (codes "= T\n# level 1\nPA\n\nPB\n\n* level 1 done\n# level 2\nP\n\n* end of keys\n")
unfolding chars digits is_utf8 utf8_valid_len encode group program_run all_start_turns all_key_turns turn opening_step
win_before_again = refl

-- an again turn that is cancelled shows neither a frame nor its message
blocked_again_turn : written (base_game (codes "[ B ] -> cancel message No\n[ action Player ] [ A ] -> [ Player ] [ B ] again\n") [] (codes "PA\n")) (codes "xq")
    ≡ Some (codes "= T\n# level 1\nPA\n\nPB\n\n* quit\n")
unfolding chars digits is_utf8 utf8_valid_len encode group program_run all_start_turns all_key_turns turn opening_step
blocked_again_turn = refl

-- a restart in an again turn adds nothing for undo: `z` takes the key back
restart_in_again_turn : written (base_game (codes "[ B ] -> restart message Back\n[ action Player ] [ A ] -> [ Player ] [ B ] again\n") [] (codes "PA\n")) (codes "xxz")
    ≡ Some (codes "= T\n# level 1\nPA\n\nPB\n\nPA\n\n! Back\nPA\n\n* end of keys\n")
unfolding chars digits is_utf8 utf8_valid_len encode group program_run all_start_turns all_key_turns turn opening_step
restart_in_again_turn = refl

-- a rule that restarts is taken back by `z`
restart_is_taken_back : written (base_game (codes "[ action Player ] -> restart\n") [] (codes "P.\n")) (codes "dxzz")
    ≡ Some (codes "= T\n# level 1\nP.\n\n.P\n\nP.\n\n.P\n\nP.\n\n* end of keys\n")
unfolding chars digits is_utf8 utf8_valid_len encode group program_run all_start_turns all_key_turns turn opening_step
restart_is_taken_back = refl

-- `z` takes a key back with all its again turns
undo_takes_again_turns_back : written (base_game (codes "[ B ] -> [ C ]\n[ action Player ] [ A ] -> [ Player ] [ B ] again\n") [] (codes "PA\n")) (codes "xzz")
    ≡ Some (codes "= T\n# level 1\nPA\n\nPB\n\nPC\n\nPA\n\nPA\n\n* end of keys\n")
unfolding chars digits is_utf8 utf8_valid_len encode group program_run all_start_turns all_key_turns turn opening_step
undo_takes_again_turns_back = refl

-- a checkpoint of an again turn is one
checkpoint_in_again_turn : written (base_game (codes "[ B ] -> [ C ] checkpoint\n[ action Player ] [ A ] -> [ Player ] [ B ] again\n") [] (codes "PA\n")) (codes "xr")
    ≡ Some (codes "= T\n# level 1\nPA\n\nPB\n\nPC\n\nPC\n\n* end of keys\n")
unfolding chars digits is_utf8 utf8_valid_len encode group program_run all_start_turns all_key_turns turn opening_step
checkpoint_in_again_turn = refl

-- a checkpoint of an again turn that changes nothing isn't set
no_checkpoint_without_change : written (base_game (codes "[ B ] -> checkpoint\n[ action Player ] [ A ] -> [ Player ] [ B ] again\n") [] (codes "PA\n")) (codes "xr")
    ≡ Some (codes "= T\n# level 1\nPA\n\nPB\n\nPA\n\n* end of keys\n")
unfolding chars digits is_utf8 utf8_valid_len encode group program_run all_start_turns all_key_turns turn opening_step
no_checkpoint_without_change = refl

-- a key has two hundred again turns, over all its messages; then `x` dismisses the last one and prints nothing
two_hundred_again_turns : written (base_game (codes "[ C ] -> [ A ] again\n[ B ] -> [ C ] again\n[ A ] -> [ B ] again message M\n") [] (codes "A\n")) (repeat 102 (codes "x"))
    ≡ Some (codes "= T\n# level 1\nA\n\nB\n\n! M\n" ++ (repeat 100 (codes "C\n\nB\n\n! M\n") ++ codes "* end of keys\n"))
unfolding chars digits is_utf8 utf8_valid_len encode group program_run all_start_turns all_key_turns turn opening_step
two_hundred_again_turns = refl

-- starts of levels ----------------------------------------------------------------------------------------------------

-- a start has again turns of its own, two hundred at most
again_turns_at_the_start : written (with_option (codes "run_rules_on_level_start") (codes "[ C ] -> [ A ] again\n[ B ] -> [ C ] again\n[ A ] -> [ B ] again\n") (codes "A\n")) []
    ≡ Some (codes "= T\n# level 1\nB\n\n" ++ (repeat 100 (codes "C\n\nB\n\n") ++ codes "* end of keys\n"))
unfolding chars digits is_utf8 utf8_valid_len encode group program_run all_start_turns all_key_turns turn opening_step
again_turns_at_the_start = refl

-- an again turn of a start that wins and changes nothing doesn't count; a key wins
no_win_at_the_start : written (with_option (codes "run_rules_on_level_start") (codes "[ B ] -> win\n[ A ] -> [ B ] again\n") (codes "A\n")) (codes "x")
    ≡ Some (codes "= T\n# level 1\nB\n\nB\n\n* level 1 done\n* the end\n")
unfolding chars digits is_utf8 utf8_valid_len encode group program_run all_start_turns all_key_turns turn opening_step
no_win_at_the_start = refl

-- after the message of a start its again turns go on as those of a start: a restart doesn't count
start_behind_its_message : written (with_option (codes "run_rules_on_level_start") (codes "[ B ] -> restart message Back\n[ A ] -> [ B ] again message Go\n") (codes "A\n")) (codes "xq")
    ≡ Some (codes "= T\n# level 1\nB\n\n! Go\n* quit\n")
unfolding chars digits is_utf8 utf8_valid_len encode group program_run all_start_turns all_key_turns turn opening_step
start_behind_its_message = refl

-- a restart at the start leaves the level as it is, and shows its message
restart_at_the_start : written (with_option (codes "run_rules_on_level_start") (codes "[ A ] -> [ B ] restart message Stay\n") (codes "A\n")) (codes "xx")
    ≡ Some (codes "= T\n# level 1\nA\n\n! Stay\nA\n\n! Stay\n* end of keys\n")
unfolding chars digits is_utf8 utf8_valid_len encode group program_run all_start_turns all_key_turns turn opening_step
restart_at_the_start = refl

-- where a restart and the start after it both have a message, that of the start is shown
message_of_the_start : written (with_option (codes "run_rules_on_level_start") (codes "[ action Player ] -> restart message Back\n[ A ] -> message Go\n") (codes "PA\n")) (codes "xx")
    ≡ Some (codes "= T\n# level 1\nPA\n\n! Go\nPA\n\n! Go\n* end of keys\n")
unfolding chars digits is_utf8 utf8_valid_len encode group program_run all_start_turns all_key_turns turn opening_step
message_of_the_start = refl

-- a checkpoint at the start is what `r` goes back to; the start comes again
checkpoint_at_the_start : written (with_option (codes "run_rules_on_level_start") (codes "[ B ] -> [ C ]\n[ A ] -> [ B ] checkpoint\n") (codes "PA\n")) (codes "r")
    ≡ Some (codes "= T\n# level 1\nPB\n\nPC\n\n* end of keys\n")
unfolding chars digits is_utf8 utf8_valid_len encode group program_run all_start_turns all_key_turns turn opening_step
checkpoint_at_the_start = refl

-- players, levels and undo --------------------------------------------------------------------------------------------

-- where a Player has to move, one that doesn't has no message either
held_player_has_no_message : written (with_option (codes "require_player_movement") (codes "[ > Player | Wall ] -> cancel message No\n") (codes "P#\n")) (codes "d")
    ≡ Some (codes "= T\n# level 1\nP#\n\nP#\n\n* end of keys\n")
unfolding chars digits is_utf8 utf8_valid_len encode group program_run all_start_turns all_key_turns turn opening_step
held_player_has_no_message = refl

-- a Player that vanishes has left its cell
vanished_player_has_moved : written (with_option (codes "require_player_movement") (codes "[ > Player | Wall ] -> [ | Wall ]\n") (codes "P#\n")) (codes "d")
    ≡ Some (codes "= T\n# level 1\nP#\n\n.#\n\n* end of keys\n")
unfolding chars digits is_utf8 utf8_valid_len encode group program_run all_start_turns all_key_turns turn opening_step
vanished_player_has_moved = refl

-- in an again turn no Player has to move
again_turns_need_no_move : written (with_option (codes "require_player_movement") (codes "[ B ] -> [ C ]\n[ > Player ] [ A ] -> [ > Player ] [ B ] again\n") (codes "P.A\n")) (codes "d")
    ≡ Some (codes "= T\n# level 1\nP.A\n\n.PB\n\n.PC\n\n* end of keys\n")
unfolding chars digits is_utf8 utf8_valid_len encode group program_run all_start_turns all_key_turns turn opening_step
again_turns_need_no_move = refl

-- levels alone are counted, and undo ends at the start of a level
level_forgets_the_last : written (base_game [] (codes "All Player on Target\n") (codes "PO\nmessage Next\nP.O\n")) (codes "dxzdz")
    ≡ Some (codes "= T\n# level 1\nPO\n\n.P\n\n* level 1 done\n! Next\n# level 2\nP.O\n\nP.O\n\n.PO\n\nP.O\n\n* end of keys\n")
unfolding chars digits is_utf8 utf8_valid_len encode group program_run all_start_turns all_key_turns turn opening_step
level_forgets_the_last = refl

-- after the end keys mean nothing
keys_behind_the_end : written (base_game [] (codes "All Player on Target\n") (codes "PO\n")) (codes "ddzrxq")
    ≡ Some (codes "= T\n# level 1\nPO\n\n.P\n\n* level 1 done\n* the end\n")
unfolding chars digits is_utf8 utf8_valid_len encode group program_run all_start_turns all_key_turns turn opening_step
keys_behind_the_end = refl

-- undo goes a thousand boards back and no further
a_thousand_boards : written (base_game [] [] (codes "P.\n")) (repeat 500 (codes "da") ++ (codes "d" ++ repeat 1001 (codes "z")))
    ≡ Some (codes "= T\n# level 1\nP.\n\n" ++ (repeat 500 (codes ".P\n\nP.\n\n") ++ (codes ".P\n\n" ++ (repeat 500 (codes "P.\n\n.P\n\n") ++ codes ".P\n\n* end of keys\n"))))
unfolding chars digits is_utf8 utf8_valid_len encode group program_run all_start_turns all_key_turns turn opening_step
a_thousand_boards = refl
