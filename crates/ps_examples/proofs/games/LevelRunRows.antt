-- Whole runs that begin at a level, worked by hand: the title, then what the entry of the level writes, and nothing of
-- the entries before it. The levels of the game stand between messages.
use Rattle.std.proofs.Common.{◌≡◌, ℕ, List, [], ◌∷◌, refl, Option, Some, None}
use Rattle.std.specs.Prelude.{codes, option_map}
use Rattle.std.specs.Str.{chars, is_utf8}
use Rattle.std.specs.Str.Lossy.{utf8_valid_len}
use Rattle.std.specs.Fmt.{digits}
use Rattle.std.proofs.Math.Utf8.{encode}
use Rattle.ps_model.specs.board.Programs.{group, program_run}
use Rattle.ps_model.specs.board.Turns.{turn}
use Rattle.ps_model.specs.session.KeySteps.{all_key_turns}
use Rattle.ps_model.specs.session.StartSteps.{all_start_turns}
use Rattle.ps_model.specs.game.Games.{Game, game}
use Rattle.ps_model.specs.game.LevelRuns.{level_count, level_entries}
use Rattle.ps_model.specs.game.Outputs.{opening_step}
use Rattle.ps_examples.proofs.games.BaseText.{base_game, with_option}
use Rattle.ps_examples.proofs.games.WholeRuns.{written, written_from}

-- a level is won where a Player stands on the Target; the entries are a message, level 1, a message and level 2
abbrev two_levels : List ℕ
two_levels = base_game [] (codes "Some Player on Target\n") (codes "message Hello\nPO\n\nmessage Now\n.PO\n")

from_start : written two_levels (codes "xdxd") ≡ Some (codes "= T\n! Hello\n# level 1\nPO\n\n.P\n\n* level 1 done\n! Now\n# level 2\n.PO\n\n..P\n\n* level 2 done\n* the end\n")
unfolding chars digits is_utf8 utf8_valid_len encode group program_run all_start_turns all_key_turns turn opening_step
from_start = refl

-- the message before the level is left out, the title isn't
from_level_1 : written_from two_levels 1 (codes "dxq") ≡ Some (codes "= T\n# level 1\nPO\n\n.P\n\n* level 1 done\n! Now\n# level 2\n.PO\n\n* quit\n")
unfolding chars digits is_utf8 utf8_valid_len encode group program_run all_start_turns all_key_turns turn opening_step
from_level_1 = refl

from_level_2 : written_from two_levels 2 (codes "d") ≡ Some (codes "= T\n# level 2\n.PO\n\n..P\n\n* level 2 done\n* the end\n")
unfolding chars digits is_utf8 utf8_valid_len encode group program_run all_start_turns all_key_turns turn opening_step
from_level_2 = refl

no_keys_at_level_2 : written_from two_levels 2 [] ≡ Some (codes "= T\n# level 2\n.PO\n\n* end of keys\n")
unfolding chars digits is_utf8 utf8_valid_len encode group program_run all_start_turns all_key_turns turn opening_step
no_keys_at_level_2 = refl

-- numbers are counted from 1, and messages have none
no_level_0 : written_from two_levels 0 (codes "d") ≡ None
unfolding chars digits is_utf8 utf8_valid_len encode
no_level_0 = refl

no_level_3 : written_from two_levels 3 (codes "d") ≡ None
unfolding chars digits is_utf8 utf8_valid_len encode
no_level_3 = refl

places : option_map (λ (read : Game). level_entries read.entries) (game two_levels) ≡ Some (1 ∷ 3 ∷ [])
unfolding chars digits is_utf8 utf8_valid_len encode
places = refl

counted : option_map (λ (read : Game). level_count read.entries) (game two_levels) ≡ Some 2
unfolding chars digits is_utf8 utf8_valid_len encode
counted = refl

-- undo and restart go no further back than the level at which the run began
undo_at_level_2 : written_from two_levels 2 (codes "zr") ≡ Some (codes "= T\n# level 2\n.PO\n\n.PO\n\n.PO\n\n* end of keys\n")
unfolding chars digits is_utf8 utf8_valid_len encode group program_run all_start_turns all_key_turns turn opening_step
undo_at_level_2 = refl

-- the level starts as it does when it is come to
abbrev started_by_rules : List ℕ
started_by_rules = with_option (codes "run_rules_on_level_start") (codes "[ Crate ] -> [ Target ]\n") (codes "P.\n\nP*\n")

rules_at_the_start : written_from started_by_rules 2 [] ≡ Some (codes "= T\n# level 2\nPO\n\n* end of keys\n")
unfolding chars digits is_utf8 utf8_valid_len encode group program_run all_start_turns all_key_turns turn opening_step
rules_at_the_start = refl

-- a text with a fault has no levels
no_game : written_from (codes "title T\n") 1 (codes "d") ≡ None
unfolding chars digits is_utf8 utf8_valid_len encode
no_game = refl
