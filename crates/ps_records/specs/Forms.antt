-- How a replay is told, in each form.
use Rattle.std.specs.Prelude.{ℕ, List, [], ◌++◌, codes}
use Rattle.ps_records.specs.ReplayObjects.{object_line}
use Rattle.ps_records.specs.ReplayWords.{replay_lines}
use Rattle.ps_records.specs.declared.forms.Form.{Form}
use Rattle.ps_records.specs.declared.forms.Form.TheVariants.{Lines, NamedLines, Object}
use Rattle.ps_records.specs.declared.replays.Replay.{Replay}

-- of the game and of the keys that files of these names have
abbrev pub told_in : Form → List ℕ → List ℕ → Replay → List ℕ
told_in Lines game file replay = replay_lines [] replay
told_in NamedLines game file replay = replay_lines (file ++ codes ": ") replay
told_in Object game file replay = object_line game file replay
