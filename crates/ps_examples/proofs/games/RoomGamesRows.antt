-- Whole runs of games in rooms: which room each frame shows.
use Rattle.std.proofs.Common.{◌≡◌, ℕ, List, [], ◌∷◌, ◌++◌, refl, Option, Some}
use Rattle.std.specs.Prelude.{codes}
use Rattle.std.specs.Str.{chars, is_utf8}
use Rattle.std.specs.Str.Lossy.{utf8_valid_len}
use Rattle.std.specs.Fmt.{digits}
use Rattle.std.proofs.Math.Utf8.{encode}
use Rattle.ps_model.specs.board.Turns.{turn}
use Rattle.ps_model.specs.game.Outputs.{opening_step}
use Rattle.ps_model.specs.board.Programs.{group, program_run}
use Rattle.ps_model.specs.session.StartSteps.{all_start_turns}
use Rattle.ps_model.specs.session.KeySteps.{all_key_turns}
use Rattle.ps_examples.proofs.games.BaseText.{with_option}
use Rattle.ps_examples.proofs.games.WholeRuns.{written}

-- what is written of a game in rooms of three columns and one row, or of two, with these rules, rows and keys
abbrev by_three : List ℕ → List ℕ → List ℕ → Option (List ℕ)
by_three rules rows keys = written (with_option (codes "flickscreen 3x1") rules rows) keys

abbrev by_two : List ℕ → List ℕ → List ℕ → Option (List ℕ)
by_two rules rows keys = written (with_option (codes "flickscreen 2x1") rules rows) keys

-- over the edge of a room and back; at the right the room ends with the board
there_and_back : by_three [] (codes "P..O#\n") (codes "dddda")
    ≡ Some (codes "= T\n# level 1\nP..\n\n.P.\n\n..P\n\nP#\n\nP#\n\n..P\n\n* end of keys\n")
unfolding chars digits is_utf8 utf8_valid_len encode group program_run all_start_turns all_key_turns turn opening_step
there_and_back = refl

-- with no Player left the room stays; undo shows the room in which the Player is again
gone_and_undone : by_three (codes "[ action Player ] -> [ ]\n") (codes "..P.O\n") (codes "dxzz")
    ≡ Some (codes "= T\n# level 1\n..P\n\nPO\n\n.O\n\nPO\n\n..P\n\n* end of keys\n")
unfolding chars digits is_utf8 utf8_valid_len encode group program_run all_start_turns all_key_turns turn opening_step
gone_and_undone = refl

-- neither a restart nor an undo sets the room: where no Player is then, it is that of the last frame
restarted_without_player : by_two (codes "[ A ] -> [ Player ]\n") (codes "O..A\n") (codes "xr")
    ≡ Some (codes "= T\n# level 1\nO.\n\n.P\n\n.A\n\n* end of keys\n")
unfolding chars digits is_utf8 utf8_valid_len encode group program_run all_start_turns all_key_turns turn opening_step
restarted_without_player = refl

undone_without_player : by_two (codes "[ A ] -> [ Player ]\n") (codes "O..A\n") (codes "xz")
    ≡ Some (codes "= T\n# level 1\nO.\n\n.P\n\n.A\n\n* end of keys\n")
unfolding chars digits is_utf8 utf8_valid_len encode group program_run all_start_turns all_key_turns turn opening_step
undone_without_player = refl

-- each level begins in the first room
next_level : by_two (codes "[ action Player ] -> win\n") (codes "...P\n\n...A\n") (codes "x")
    ≡ Some (codes "= T\n# level 1\n.P\n\n.P\n\n* level 1 done\n# level 2\n..\n\n* end of keys\n")
unfolding chars digits is_utf8 utf8_valid_len encode group program_run all_start_turns all_key_turns turn opening_step
next_level = refl

-- a blocked turn shows the board once more, in the same room; the message after it leaves the room
blocked : by_two (codes "[ > Player | Wall ] -> cancel message Stop\n") (codes "..P#.\n") (codes "dxa")
    ≡ Some (codes "= T\n# level 1\nP#\n\nP#\n\n! Stop\n.P\n\n* end of keys\n")
unfolding chars digits is_utf8 utf8_valid_len encode group program_run all_start_turns all_key_turns turn opening_step
blocked = refl

-- each again turn shows its own room, and the first frame that of the board after the turn of the start
again_turns : by_two (codes "[ action Player ] -> [ right Player ] again\n[ stationary Player ] -> [ right Player ] again\n") (codes "P...\n") (codes "x")
    ≡ Some (codes "= T\n# level 1\nP.\n\n.P\n\nP.\n\n.P\n\n* end of keys\n")
unfolding chars digits is_utf8 utf8_valid_len encode group program_run all_start_turns all_key_turns turn opening_step
again_turns = refl

turn_of_a_start : written (with_option (codes "run_rules_on_level_start\nflickscreen 2x1") (codes "[ A ] -> [ Player ]\n") (codes "O..A\n")) []
    ≡ Some (codes "= T\n# level 1\n.P\n\n* end of keys\n")
unfolding chars digits is_utf8 utf8_valid_len encode group program_run all_start_turns all_key_turns turn opening_step
turn_of_a_start = refl
