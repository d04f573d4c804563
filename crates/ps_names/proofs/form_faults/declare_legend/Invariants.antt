use Rattle.std.proofs.Common.{◌≡◌, ◌++◌, drop, length, map}
use Rattle.std.specs.List.{enumerate_from}
use Rattle.ps_model.specs.names.DeclarationFaults.{form_faults}
use Rattle.ps_model.specs.names.LegendLines.{declarations}
use Rattle.ps_names.specs.Known.{keys}
use Rattle.ps_names.specs.LegendShown.{declarations_shown, named_line}
use Rattle.ps_names.specs.LinesShown.{lines_shown}
use Rattle.ps_names.proofs.form_faults.declare_legend.Given as goal

abbrev pub invariant-loop-place : goal.invariant-loop-place
invariant-loop-place l =
    record {
      long : length l.made.items ≡ l.place;
      part : declarations_shown l.made.items ++ declarations (lines_shown (drop l.place l.lines)) ≡ declarations
          (lines_shown l.lines);
      known : l.known ++ map named_line (enumerate_from l.place (declarations (lines_shown (drop l.place l.lines)))) ≡
          l.initial.known ++ map named_line (enumerate_from 0 (declarations (lines_shown l.lines)));
      faults : form_faults (keys l.known) (lines_shown (drop l.place l.lines)) ≡ form_faults (keys l.initial.known)
          (lines_shown l.lines);
    }
