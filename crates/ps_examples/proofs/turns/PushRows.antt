-- Runs of games that push, worked by hand: from the bytes of a text to the bytes that are written.
use Rattle.std.proofs.Common.{◌≡◌, [], refl, Some}
use Rattle.std.specs.Prelude.{codes}
use Rattle.std.specs.Str.{chars, is_utf8}
use Rattle.std.specs.Str.Lossy.{utf8_valid_len}
use Rattle.std.specs.Fmt.{digits}
use Rattle.std.proofs.Math.Utf8.{encode}
use Rattle.ps_model.specs.board.Turns.{turn}
use Rattle.ps_model.specs.game.Outputs.{opening_step}
use Rattle.ps_model.specs.board.Programs.{group, program_run}
use Rattle.ps_model.specs.session.StartSteps.{all_start_turns}
use Rattle.ps_model.specs.session.KeySteps.{all_key_turns}
use Rattle.ps_examples.proofs.games.BaseText.{base_game}
use Rattle.ps_examples.proofs.games.WholeRuns.{written}

-- a crate is pushed onto a target, and the level is done
push_onto_target : written (base_game (codes "[ > Player | Crate ] -> [ > Player | > Crate ]\n")
    (codes "All Target on Crate\n") (codes "#P*O#\n")) (codes "d")
    ≡ Some (codes "= T\n# level 1\n#P*O#\n\n#.P@#\n\n* level 1 done\n* the end\n")
unfolding chars digits is_utf8 utf8_valid_len encode group program_run all_start_turns all_key_turns turn opening_step
push_onto_target = refl

-- a crate before a wall stays, and with it its player; nothing is there to take back
push_against_wall : written (base_game (codes "[ > Player | Crate ] -> [ > Player | > Crate ]\n")
    (codes "All Target on Crate\n") (codes "P*#O\n")) (codes "dzq")
    ≡ Some (codes "= T\n# level 1\nP*#O\n\nP*#O\n\nP*#O\n\n* quit\n")
unfolding chars digits is_utf8 utf8_valid_len encode group program_run all_start_turns all_key_turns turn opening_step
push_against_wall = refl

-- a row of crates is pushed only by a rule that says so, over as many rounds as it takes
row_of_crates_stays : written (base_game (codes "[ > Player | Crate ] -> [ > Player | > Crate ]\n") ([])
    (codes "P***.\n")) (codes "d")
    ≡ Some (codes "= T\n# level 1\nP***.\n\nP***.\n\n* end of keys\n")
unfolding chars digits is_utf8 utf8_valid_len encode group program_run all_start_turns all_key_turns turn opening_step
row_of_crates_stays = refl

row_of_crates_pushed : written (base_game (codes
    "[ > Player | Crate ] -> [ > Player | > Crate ]\n[ > Crate | Crate ] -> [ > Crate | > Crate ]\n") ([])
    (codes "P***.\n")) (codes "d")
    ≡ Some (codes "= T\n# level 1\nP***.\n\n.P***\n\n* end of keys\n")
unfolding chars digits is_utf8 utf8_valid_len encode group program_run all_start_turns all_key_turns turn opening_step
row_of_crates_pushed = refl

-- who enters a cell that two want: the least where it is bare, the one above where it is left, nobody in a swap or a
-- ring
least_contender_wins : written (base_game (codes
    "[ A ] -> [ right A ]\n[ B ] -> [ left B ]\n[ C ] -> [ up C ]\n[ D ] -> [ down D ]\n") ([]) (codes "A.B\n"))
    (codes "x")
    ≡ Some (codes "= T\n# level 1\nA.B\n\n.AB\n\n* end of keys\n")
unfolding chars digits is_utf8 utf8_valid_len encode group program_run all_start_turns all_key_turns turn opening_step
least_contender_wins = refl

contender_above_wins : written (base_game (codes
    "[ A ] -> [ right A ]\n[ B ] -> [ left B ]\n[ C ] -> [ up C ]\n[ D ] -> [ down D ]\n") ([]) (codes "...\nACB\n"))
    (codes "x")
    ≡ Some (codes "= T\n# level 1\n...\nACB\n\n.C.\nAB.\n\n* end of keys\n")
unfolding chars digits is_utf8 utf8_valid_len encode group program_run all_start_turns all_key_turns turn opening_step
contender_above_wins = refl

two_do_not_swap : written (base_game
    (codes "[ A ] -> [ right A ]\n[ B ] -> [ left B ]\n[ C ] -> [ up C ]\n[ D ] -> [ down D ]\n") ([]) (codes "AB\n"))
    (codes "x")
    ≡ Some (codes "= T\n# level 1\nAB\n\nAB\n\n* end of keys\n")
unfolding chars digits is_utf8 utf8_valid_len encode group program_run all_start_turns all_key_turns turn opening_step
two_do_not_swap = refl

ring_does_not_turn : written (base_game (codes
    "[ A ] -> [ right A ]\n[ B ] -> [ left B ]\n[ C ] -> [ up C ]\n[ D ] -> [ down D ]\n") ([]) (codes "AD\nCB\n"))
    (codes "x")
    ≡ Some (codes "= T\n# level 1\nAD\nCB\n\nAD\nCB\n\n* end of keys\n")
unfolding chars digits is_utf8 utf8_valid_len encode group program_run all_start_turns all_key_turns turn opening_step
ring_does_not_turn = refl

-- players move without rules; chains move as one
walk_and_quit : written (base_game ([]) ([]) (codes "P..\n")) (codes "dddq")
    ≡ Some (codes "= T\n# level 1\nP..\n\n.P.\n\n..P\n\n..P\n\n* quit\n")
unfolding chars digits is_utf8 utf8_valid_len encode group program_run all_start_turns all_key_turns turn opening_step
walk_and_quit = refl

pair_moves : written (base_game ([]) ([]) (codes "PP.\n")) (codes "d")
    ≡ Some (codes "= T\n# level 1\nPP.\n\n.PP\n\n* end of keys\n")
unfolding chars digits is_utf8 utf8_valid_len encode group program_run all_start_turns all_key_turns turn opening_step
pair_moves = refl

row_moves_left : written (base_game ([]) ([]) (codes ".PPP\n")) (codes "a")
    ≡ Some (codes "= T\n# level 1\n.PPP\n\nPPP.\n\n* end of keys\n")
unfolding chars digits is_utf8 utf8_valid_len encode group program_run all_start_turns all_key_turns turn opening_step
row_moves_left = refl

pair_before_wall : written (base_game ([]) ([]) (codes "PP#\n")) (codes "d")
    ≡ Some (codes "= T\n# level 1\nPP#\n\nPP#\n\n* end of keys\n")
unfolding chars digits is_utf8 utf8_valid_len encode group program_run all_start_turns all_key_turns turn opening_step
pair_before_wall = refl

long_row_moves : written (base_game ([]) ([]) (codes
    "PPPPPPPPPPPPPPPPPPPPPPPPPPPPPPPPPPPPPPPPPPPPPPPPPPPPPPPPPPPPPPP.\n")) (codes "d")
    ≡ Some (codes "= T\n# level 1\nPPPPPPPPPPPPPPPPPPPPPPPPPPPPPPPPPPPPPPPPPPPPPPPPPPPPPPPPPPPPPPP.\n\n.PPPPPPPPPPPPPPPPPPPPPPPPPPPPPPPPPPPPPPPPPPPPPPPPPPPPPPPPPPPPPPP\n\n* end of keys\n")
unfolding chars digits is_utf8 utf8_valid_len encode group program_run all_start_turns all_key_turns turn opening_step
long_row_moves = refl

-- a player pushed back by a rule; a rule in one direction alone
pushed_back : written (base_game (codes "[ > Player | Crate ] -> [ < Player | Crate ]\n") ([]) (codes ".P*\n"))
    (codes "d")
    ≡ Some (codes "= T\n# level 1\n.P*\n\nP.*\n\n* end of keys\n")
unfolding chars digits is_utf8 utf8_valid_len encode group program_run all_start_turns all_key_turns turn opening_step
pushed_back = refl

only_upwards : written (base_game (codes "up [ > Player | Crate ] -> [ > Player | > Crate ]\n") ([])
    (codes ".\n*\nP\n")) (codes "w")
    ≡ Some (codes "= T\n# level 1\n.\n*\nP\n\n*\nP\n.\n\n* end of keys\n")
unfolding chars digits is_utf8 utf8_valid_len encode group program_run all_start_turns all_key_turns turn opening_step
only_upwards = refl

-- a late rule comes after the movement
late_rule : written (base_game (codes "[ A ] -> [ right A ]\nlate [ A | Wall ] -> [ B | Wall ]\n") ([])
    (codes "A.#\n")) (codes "x")
    ≡ Some (codes "= T\n# level 1\nA.#\n\n.B#\n\n* end of keys\n")
unfolding chars digits is_utf8 utf8_valid_len encode group program_run all_start_turns all_key_turns turn opening_step
late_rule = refl
