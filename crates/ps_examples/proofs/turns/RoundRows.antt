-- Rounds, loops, ellipses and combinations, worked by hand: from the bytes of a text to the bytes that are written.
use Rattle.std.proofs.Common.{◌≡◌, [], refl, Some}
use Rattle.std.specs.Prelude.{codes}
use Rattle.std.specs.Str.{chars, is_utf8}
use Rattle.std.specs.Str.Lossy.{utf8_valid_len}
use Rattle.std.specs.Fmt.{digits}
use Rattle.std.proofs.Math.Utf8.{encode}
use Rattle.ps_model.specs.board.Turns.{turn}
use Rattle.ps_model.specs.game.Outputs.{opening_step}
use Rattle.ps_model.specs.board.Programs.{group, program_run}
use Rattle.ps_model.specs.session.StartSteps.{all_start_turns}
use Rattle.ps_model.specs.session.KeySteps.{all_key_turns}
use Rattle.ps_examples.proofs.games.BaseText.{base_game}
use Rattle.ps_examples.proofs.games.WholeRuns.{written}

-- a group that never settles ends after two hundred rounds, and the rules after it run
two_hundred_rounds : written (base_game (codes "[ A ] -> [ B ]\n+ [ B ] -> [ A ]\n[ A ] -> [ C ]\n") ([])
    (codes "A\n")) (codes "x")
    ≡ Some (codes "= T\n# level 1\nA\n\nC\n\n* end of keys\n")
unfolding chars digits is_utf8 utf8_valid_len encode group program_run all_start_turns all_key_turns turn opening_step
two_hundred_rounds = refl

an_even_number_of_rounds : written (base_game (codes "[ C ] -> [ A ]\n+ [ B ] -> [ C ]\n+ [ A ] -> [ B ]\n") ([])
    (codes "A\n")) (codes "x")
    ≡ Some (codes "= T\n# level 1\nA\n\nC\n\n* end of keys\n")
unfolding chars digits is_utf8 utf8_valid_len encode group program_run all_start_turns all_key_turns turn opening_step
an_even_number_of_rounds = refl

-- a loop that never settles makes a pass and two hundred repeats; what stands after it isn't run
a_pass_and_two_hundred_repeats : written (base_game
    (codes "startloop\n[ C ] -> [ A ]\n[ B ] -> [ C ]\n[ A ] -> [ B ]\nendloop\n") ([]) (codes "A\n")) (codes "x")
    ≡ Some (codes "= T\n# level 1\nA\n\nB\n\n* end of keys\n")
unfolding chars digits is_utf8 utf8_valid_len encode group program_run all_start_turns all_key_turns turn opening_step
a_pass_and_two_hundred_repeats = refl

rest_behind_loop_not_run : written (base_game (codes
    "startloop\n[ C ] -> [ A ]\n[ B ] -> [ C ]\n[ A ] -> [ B ]\nendloop\n[ B ] -> [ D ]\n") ([]) (codes "A\n"))
    (codes "x")
    ≡ Some (codes "= T\n# level 1\nA\n\nB\n\n* end of keys\n")
unfolding chars digits is_utf8 utf8_valid_len encode group program_run all_start_turns all_key_turns turn opening_step
rest_behind_loop_not_run = refl

-- an ellipsis stands for any gap; the order is by the leftmost end, then by the gap
gaps_rightwards : written (base_game (codes "right [ A | ... | B ] -> [ | ... | C ]\n") ([]) (codes "AB..B\n"))
    (codes "x")
    ≡ Some (codes "= T\n# level 1\nAB..B\n\n.C..B\n\n* end of keys\n")
unfolding chars digits is_utf8 utf8_valid_len encode group program_run all_start_turns all_key_turns turn opening_step
gaps_rightwards = refl

gaps_leftwards : written (base_game (codes "left [ A | ... | B ] -> [ | ... | C ]\n") ([]) (codes "B.B.A\n"))
    (codes "x")
    ≡ Some (codes "= T\n# level 1\nB.B.A\n\nC.B..\n\n* end of keys\n")
unfolding chars digits is_utf8 utf8_valid_len encode group program_run all_start_turns all_key_turns turn opening_step
gaps_leftwards = refl

wide_gap : written (base_game (codes "right [ A | ... | B ] -> [ | ... | C ]\n") ([]) (codes "A...B\n")) (codes "x")
    ≡ Some (codes "= T\n# level 1\nA...B\n\n....C\n\n* end of keys\n")
unfolding chars digits is_utf8 utf8_valid_len encode group program_run all_start_turns all_key_turns turn opening_step
wide_gap = refl

-- two ellipses: of places with the same leftmost or topmost end, the one comes first whose gap nearest to that end is
-- smaller; of two with this gap, the one with the smaller other gap
nearest_gap_rightwards : written (base_game (codes "right [ A | ... | B | ... | C ] -> [ | ... | D | ... | C ]\n") ([])
    (codes "AB.BC\n")) (codes "x")
    ≡ Some (codes "= T\n# level 1\nAB.BC\n\n.D.BC\n\n* end of keys\n")
unfolding chars digits is_utf8 utf8_valid_len encode group program_run all_start_turns all_key_turns turn opening_step
nearest_gap_rightwards = refl

other_gap_rightwards : written (base_game (codes "right [ A | ... | B | ... | C ] -> [ | ... | B | ... | D ]\n") ([])
    (codes "ABC.C\n")) (codes "x")
    ≡ Some (codes "= T\n# level 1\nABC.C\n\n.BD.C\n\n* end of keys\n")
unfolding chars digits is_utf8 utf8_valid_len encode group program_run all_start_turns all_key_turns turn opening_step
other_gap_rightwards = refl

nearest_gap_leftwards : written (base_game (codes "left [ A | ... | B | ... | C ] -> [ | ... | D | ... | C ]\n") ([])
    (codes "CB.BA\n")) (codes "x")
    ≡ Some (codes "= T\n# level 1\nCB.BA\n\nCD.B.\n\n* end of keys\n")
unfolding chars digits is_utf8 utf8_valid_len encode group program_run all_start_turns all_key_turns turn opening_step
nearest_gap_leftwards = refl

other_gap_leftwards : written (base_game (codes "left [ A | ... | B | ... | C ] -> [ D | ... | B | ... | ]\n") ([])
    (codes "CBA.A\n")) (codes "x")
    ≡ Some (codes "= T\n# level 1\nCBA.A\n\n.BD.A\n\n* end of keys\n")
unfolding chars digits is_utf8 utf8_valid_len encode group program_run all_start_turns all_key_turns turn opening_step
other_gap_leftwards = refl

nearest_gap_downwards : written (base_game (codes "down [ A | ... | B | ... | C ] -> [ | ... | D | ... | C ]\n") ([])
    (codes "A\nB\n.\nB\nC\n")) (codes "x")
    ≡ Some (codes "= T\n# level 1\nA\nB\n.\nB\nC\n\n.\nD\n.\nB\nC\n\n* end of keys\n")
unfolding chars digits is_utf8 utf8_valid_len encode group program_run all_start_turns all_key_turns turn opening_step
nearest_gap_downwards = refl

nearest_gap_upwards : written (base_game (codes "up [ A | ... | B | ... | C ] -> [ | ... | D | ... | C ]\n") ([])
    (codes "C\nB\n.\nB\nA\n")) (codes "x")
    ≡ Some (codes "= T\n# level 1\nC\nB\n.\nB\nA\n\nC\nD\n.\nB\n.\n\n* end of keys\n")
unfolding chars digits is_utf8 utf8_valid_len encode group program_run all_start_turns all_key_turns turn opening_step
nearest_gap_upwards = refl

-- all places in their order, each looked at again: the second and the fourth of these no longer fit
places_with_two_gaps : written (base_game (codes "right [ A | ... | B | ... | C ] -> [ A | ... | D | ... | D ]\n") ([])
    (codes "ABCBC\n")) (codes "x")
    ≡ Some (codes "= T\n# level 1\nABCBC\n\nADDDD\n\n* end of keys\n")
unfolding chars digits is_utf8 utf8_valid_len encode group program_run all_start_turns all_key_turns turn opening_step
places_with_two_gaps = refl

-- longer parts, and a rule that runs again and again
longer_parts : written (base_game (codes "right [ A | B | ... | A | ... | B | C ] -> [ | | ... | D | ... | | ]\n") ([])
    (codes "AB.A.BC\n")) (codes "x")
    ≡ Some (codes "= T\n# level 1\nAB.A.BC\n\n...D...\n\n* end of keys\n")
unfolding chars digits is_utf8 utf8_valid_len encode group program_run all_start_turns all_key_turns turn opening_step
longer_parts = refl

places_one_after_the_other : written (base_game
    (codes "right [ A | ... | B | ... | C ] -> [ B | ... | A | ... | C ]\n") ([]) (codes "AABBC\n")) (codes "x")
    ≡ Some (codes "= T\n# level 1\nAABBC\n\nBBAAC\n\n* end of keys\n")
unfolding chars digits is_utf8 utf8_valid_len encode group program_run all_start_turns all_key_turns turn opening_step
places_one_after_the_other = refl

-- combinations are those of the start, and each is looked at again before it is applied
combinations_looked_at_again : written (base_game (codes "[ A ] [ A ] -> [ B ] [ C ]\n") ([]) (codes "AA\n"))
    (codes "x")
    ≡ Some (codes "= T\n# level 1\nAA\n\nCC\n\n* end of keys\n")
unfolding chars digits is_utf8 utf8_valid_len encode group program_run all_start_turns all_key_turns turn opening_step
combinations_looked_at_again = refl

places_not_looked_for_anew : written (base_game (codes "right [ A | B ] -> [ B | A ]\n+ [ A ] -> [ C ]\n") ([])
    (codes "ABB\n")) (codes "x")
    ≡ Some (codes "= T\n# level 1\nABB\n\nBCB\n\n* end of keys\n")
unfolding chars digits is_utf8 utf8_valid_len encode group program_run all_start_turns all_key_turns turn opening_step
places_not_looked_for_anew = refl
