-- The faults of WINCONDITIONS that are told together: the first of each line, in the order of the lines.
use Rattle.std.specs.Prelude.{List, option_to_list}
use Rattle.std.specs.List.{flat_map}
use Rattle.ps_model.specs.declared.faults.Fault.{Fault}
use Rattle.ps_model.specs.text.Faults.{first_fault}
use Rattle.ps_model.specs.text.Lines.{Line}
use Rattle.ps_model.specs.names.Names.{Names}
use Rattle.ps_model.specs.board.WinLines.{win_faults_of}

-- that of a line
abbrev pub told_win : Names → Line → List Fault
told_win names line = option_to_list (first_fault (win_faults_of names line))

-- those of the lines of WINCONDITIONS
abbrev pub told_wins : Names → List Line → List Fault
told_wins names lines = flat_map (told_win names) lines
