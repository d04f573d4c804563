-- Commands, messages, undo, restart, options and several entries, worked by hand: from the bytes of a text to the bytes
-- that are written.
use Rattle.std.proofs.Common.{◌≡◌, [], ◌∷◌, refl, Some}
use Rattle.std.specs.Prelude.{codes}
use Rattle.std.specs.Str.{chars, is_utf8}
use Rattle.std.specs.Str.Lossy.{utf8_valid_len}
use Rattle.std.specs.Fmt.{digits}
use Rattle.std.proofs.Math.Utf8.{encode}
use Rattle.ps_model.specs.board.Turns.{turn}
use Rattle.ps_model.specs.game.Outputs.{opening_step}
use Rattle.ps_model.specs.board.Programs.{group, program_run}
use Rattle.ps_model.specs.session.StartSteps.{all_start_turns}
use Rattle.ps_model.specs.session.KeySteps.{all_key_turns}
use Rattle.ps_examples.proofs.games.BaseText.{base_game, with_option}
use Rattle.ps_examples.proofs.games.WholeRuns.{written}

-- `cancel` takes the turn back and shows its rule's message; nothing of later rules is queued
cancel_with_message : written (base_game (codes
    "[ > Player | Wall ] -> cancel message Stop\n[ > Player | Wall ] -> win\n") ([]) (codes "P#\n")) (codes "dq")
    ≡ Some (codes "= T\n# level 1\nP#\n\nP#\n\n! Stop\n* quit\n")
unfolding chars digits is_utf8 utf8_valid_len encode group program_run all_start_turns all_key_turns turn opening_step
cancel_with_message = refl

cancel_alone : written (base_game (codes "[ > Player | Wall ] -> cancel\n") ([]) (codes "P#\n")) (codes "dq")
    ≡ Some (codes "= T\n# level 1\nP#\n\nP#\n\n* quit\n")
unfolding chars digits is_utf8 utf8_valid_len encode group program_run all_start_turns all_key_turns turn opening_step
cancel_alone = refl

-- an again turn with a message; other keys are ignored while it waits
again_with_message : written (base_game (codes
    "[ B ] -> [ C ] message Two\n[ action Player ] [ A ] -> [ Player ] [ B ] again\n") ([]) (codes "PA\n"))
    (codes "xaxq")
    ≡ Some (codes "= T\n# level 1\nPA\n\nPB\n\nPC\n\n! Two\n* quit\n")
unfolding chars digits is_utf8 utf8_valid_len encode group program_run all_start_turns all_key_turns turn opening_step
again_with_message = refl

-- the message comes before the end of the level
message_and_win : written (base_game (codes "[ A ] -> [ B ] message Done\n") (codes "No A\n") (codes "A\n"))
    (codes "xx")
    ≡ Some (codes "= T\n# level 1\nA\n\nB\n\n! Done\n* level 1 done\n* the end\n")
unfolding chars digits is_utf8 utf8_valid_len encode group program_run all_start_turns all_key_turns turn opening_step
message_and_win = refl

-- an again turn that changes nothing shows nothing
again_without_change : written (base_game (codes
    "[ B ] -> message Hi\n[ action Player ] [ A ] -> [ Player ] [ B ] again\n") ([]) (codes "PA\n")) (codes "xxxq")
    ≡ Some (codes "= T\n# level 1\nPA\n\nPB\n\nPB\n\n! Hi\n* quit\n")
unfolding chars digits is_utf8 utf8_valid_len encode group program_run all_start_turns all_key_turns turn opening_step
again_without_change = refl

-- a checkpoint is what `r` goes back to; `z` takes turns back, and `r` too
checkpoint_undo_restart : written (base_game (codes "[ action Player ] -> checkpoint\n") ([]) (codes "P...\n"))
    (codes "dxdrzzzrq")
    ≡ Some (codes "= T\n# level 1\nP...\n\n.P..\n\n.P..\n\n..P.\n\n.P..\n\n..P.\n\n.P..\n\nP...\n\n.P..\n\n* quit\n")
unfolding chars digits is_utf8 utf8_valid_len encode group program_run all_start_turns all_key_turns turn opening_step
checkpoint_undo_restart = refl

-- messages before and after a level, with brackets as they stand
messages_and_level : written (base_game [] (codes "Some Player\n") (codes "message Hello (World)\nP\nmessage Bye\n"))
    (codes "xdx")
    ≡ Some (codes "= T\n! Hello (World)\n# level 1\nP\n\nP\n\n* level 1 done\n! Bye\n* the end\n")
unfolding chars digits is_utf8 utf8_valid_len encode group program_run all_start_turns all_key_turns turn opening_step
messages_and_level = refl

-- arrows in pieces, an ESC that begins none, bytes that mean nothing
arrow : written (base_game [] [] (codes "P..\n")) (27 ∷ 91 ∷ 67 ∷ []) ≡ Some
    (codes "= T\n# level 1\nP..\n\n.P.\n\n* end of keys\n")
unfolding chars digits is_utf8 utf8_valid_len encode group program_run all_start_turns all_key_turns turn opening_step
arrow = refl

escape_alone : written (base_game [] [] (codes "P..\n")) (27 ∷ []) ≡ Some
    (codes "= T\n# level 1\nP..\n\n* end of keys\n")
unfolding chars digits is_utf8 utf8_valid_len encode group program_run all_start_turns all_key_turns turn opening_step
escape_alone = refl

no_keys : written (base_game [] [] (codes "P..\n")) [] ≡ Some (codes "= T\n# level 1\nP..\n\n* end of keys\n")
unfolding chars digits is_utf8 utf8_valid_len encode group program_run all_start_turns all_key_turns turn opening_step
no_keys = refl

bytes_without_meaning : written (base_game ([]) ([]) (codes "P..\n")) (codes "kQ1")
    ≡ Some (codes "= T\n# level 1\nP..\n\n* end of keys\n")
unfolding chars digits is_utf8 utf8_valid_len encode group program_run all_start_turns all_key_turns turn opening_step
bytes_without_meaning = refl

escape_before_a_key : written (base_game [] [] (codes "P..\n")) (27 ∷ 100 ∷ []) ≡ Some
    (codes "= T\n# level 1\nP..\n\n.P.\n\n* end of keys\n")
unfolding chars digits is_utf8 utf8_valid_len encode group program_run all_start_turns all_key_turns turn opening_step
escape_before_a_key = refl

escape_before_no_arrow : written (base_game [] [] (codes "P..\n")) (27 ∷ 91 ∷ 49 ∷ 59 ∷ 53 ∷ 67 ∷ []) ≡ Some
    (codes "= T\n# level 1\nP..\n\n* end of keys\n")
unfolding chars digits is_utf8 utf8_valid_len encode group program_run all_start_turns all_key_turns turn opening_step
escape_before_no_arrow = refl

-- where a Player has to move, a turn in which none did is blocked; without a Player nothing is
player_has_to_move : written (with_option (codes "require_player_movement") (codes "[ A ] -> [ B ]\n")
    (codes "P.P#A\n")) (codes "xddq")
    ≡ Some (codes "= T\n# level 1\nP.P#A\n\nP.P#A\n\n.PP#B\n\n.PP#B\n\n* quit\n")
unfolding chars digits is_utf8 utf8_valid_len encode group program_run all_start_turns all_key_turns turn opening_step
player_has_to_move = refl

no_player_to_move : written (with_option (codes "require_player_movement") (codes "[ A ] -> [ B ]\n") (codes ".A\n"))
    (codes "x") ≡ Some (codes "= T\n# level 1\n.A\n\n.B\n\n* end of keys\n")
unfolding chars digits is_utf8 utf8_valid_len encode group program_run all_start_turns all_key_turns turn opening_step
no_player_to_move = refl

-- rules at the start of a level: the win is dropped; a restart comes to the start again, and writes no new number
rules_at_the_start : written (with_option (codes "run_rules_on_level_start") (codes "[ A ] -> [ B ] win message Go\n")
    (codes "A\n")) (codes "xrq")
    ≡ Some (codes "= T\n# level 1\nB\n\n! Go\nB\n\n! Go\n* quit\n")
unfolding chars digits is_utf8 utf8_valid_len encode group program_run all_start_turns all_key_turns turn opening_step
rules_at_the_start = refl

-- a rule that restarts, with its message
restart_with_message : written (base_game (codes "[ action Player ] -> restart message Hi\n") ([]) (codes "P.\n"))
    (codes "dxxq")
    ≡ Some (codes "= T\n# level 1\nP.\n\n.P\n\nP.\n\n! Hi\n* quit\n")
unfolding chars digits is_utf8 utf8_valid_len encode group program_run all_start_turns all_key_turns turn opening_step
restart_with_message = refl

-- options that have keys ignored
no_undo : written (with_option (codes "noundo") ([]) (codes "P..\n")) (codes "dz") ≡ Some
    (codes "= T\n# level 1\nP..\n\n.P.\n\n* end of keys\n")
unfolding chars digits is_utf8 utf8_valid_len encode group program_run all_start_turns all_key_turns turn opening_step
no_undo = refl

no_restart : written (with_option (codes "norestart") ([]) (codes "P..\n")) (codes "dr") ≡ Some
    (codes "= T\n# level 1\nP..\n\n.P.\n\n* end of keys\n")
unfolding chars digits is_utf8 utf8_valid_len encode group program_run all_start_turns all_key_turns turn opening_step
no_restart = refl

no_action : written (with_option (codes "noaction") ([]) (codes "P..\n")) (codes "dx") ≡ Some
    (codes "= T\n# level 1\nP..\n\n.P.\n\n* end of keys\n")
unfolding chars digits is_utf8 utf8_valid_len encode group program_run all_start_turns all_key_turns turn opening_step
no_action = refl

no_action_dismisses : written (with_option (codes "noaction") [] (codes "message Hi\nP\n")) (codes "xx") ≡ Some
    (codes "= T\n! Hi\n# level 1\nP\n\n* end of keys\n")
unfolding chars digits is_utf8 utf8_valid_len encode group program_run all_start_turns all_key_turns turn opening_step
no_action_dismisses = refl
