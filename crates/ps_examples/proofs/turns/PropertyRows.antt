-- Properties and movement words of several moves, worked by hand: from the bytes of a text to the bytes that are
-- written.
use Rattle.std.proofs.Common.{◌≡◌, [], refl, Some}
use Rattle.std.specs.Prelude.{codes}
use Rattle.std.specs.Str.{chars, is_utf8}
use Rattle.std.specs.Str.Lossy.{utf8_valid_len}
use Rattle.std.specs.Fmt.{digits}
use Rattle.std.proofs.Math.Utf8.{encode}
use Rattle.ps_model.specs.board.Turns.{turn}
use Rattle.ps_model.specs.game.Outputs.{opening_step}
use Rattle.ps_model.specs.board.Programs.{group, program_run}
use Rattle.ps_model.specs.session.StartSteps.{all_start_turns}
use Rattle.ps_model.specs.session.KeySteps.{all_key_turns}
use Rattle.ps_model.specs.declared.faults.FaultKind.TheVariants as kind
use Rattle.ps_examples.proofs.games.BaseText.{base_game}
use Rattle.ps_examples.proofs.games.WholeRuns.{written, refused}
use Rattle.ps_examples.proofs.games.ChangedTexts.{changed}

-- members are tried in their order, the first occurrence slowest
last_occurrence_varies_fastest : written (base_game (codes "right [ AT | AT ] -> [ | ]\n") ([]) (codes "AOA\n"))
    (codes "x")
    ≡ Some (codes "= T\n# level 1\nAOA\n\n..A\n\n* end of keys\n")
unfolding chars digits is_utf8 utf8_valid_len encode group program_run all_start_turns all_key_turns turn opening_step
last_occurrence_varies_fastest = refl

-- a property on the right is that of its own cell, or else the only one of the left
bound_in_its_own_cell : written (base_game (codes "right [ AT | AT ] -> [ | AT ]\n") ([]) (codes "AO\n")) (codes "x")
    ≡ Some (codes "= T\n# level 1\nAO\n\n.O\n\n* end of keys\n")
unfolding chars digits is_utf8 utf8_valid_len encode group program_run all_start_turns all_key_turns turn opening_step
bound_in_its_own_cell = refl

bound_to_the_only_one : written (base_game (codes "right [ AT | Crate ] -> [ | Crate AT ]\n") ([]) (codes "O*\n"))
    (codes "x")
    ≡ Some (codes "= T\n# level 1\nO*\n\n.@\n\n* end of keys\n")
unfolding chars digits is_utf8 utf8_valid_len encode group program_run all_start_turns all_key_turns turn opening_step
bound_to_the_only_one = refl

bound_to_neither_of_two : refused (base_game (codes "right [ AT | AT | Crate ] -> [ | | Crate AT ]\n") ([])
    (codes "P\n")) ≡ Some (record { kind = kind.Unbound; line = 30 })
unfolding chars digits is_utf8 utf8_valid_len encode group program_run all_start_turns all_key_turns turn opening_step
bound_to_neither_of_two = refl

-- a property whose members lie on one layer isn't chosen: the push is handed on, from Player to A, and from A to C
loose_property_handed_on : written (changed 23 1 (codes "AC = A or C\n")
    (base_game (codes "right [ > Player | AC ] -> [ > Player | > AC ]\nright [ > AC | AC ] -> [ > AC | > AC ]\n") ([])
    (codes "PAC.\n"))) (codes "d")
    ≡ Some (codes "= T\n# level 1\nPAC.\n\n.PAC\n\n* end of keys\n")
unfolding chars digits is_utf8 utf8_valid_len encode group program_run all_start_turns all_key_turns turn opening_step
loose_property_handed_on = refl

-- a word of several moves on the right is that of its own cell
moving_pushes_and_acts : written (base_game (codes "[ moving Player | Crate ] -> [ moving Player | moving Crate ]\n")
    ([]) (codes "P*.\n")) (codes "xd")
    ≡ Some (codes "= T\n# level 1\nP*.\n\nP*.\n\n.P*\n\n* end of keys\n")
unfolding chars digits is_utf8 utf8_valid_len encode group program_run all_start_turns all_key_turns turn opening_step
moving_pushes_and_acts = refl
