use Rattle.ps_laws.proofs.grids.KeptSides.{attempt-sides, round-sides, settled-sides, group-sides, pass-sides}
use Rattle.ps_laws.proofs.grids.KeptSides.{looped-sides, section_run-sides, sections_run-sides, program_run-sides}
use Rattle.ps_laws.proofs.laws_of_sides.rules_keep_sides.Goals as goal

pub returns : goal.returns
returns c = record {
  attempts = attempt-sides;
  rounds = round-sides;
  settling = settled-sides;
  groups = group-sides;
  passes = pass-sides;
  loops = looped-sides;
  sections = section_run-sides;
  runs = sections_run-sides;
  programs = program_run-sides;
}
