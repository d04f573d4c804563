-- Programs of rules whose cells keep the cells of a game keep the grids of the game, and so do their parts.
use Rattle.std.proofs.Common.{List}
use Rattle.std.specs.Prelude.{All}
use Rattle.std.proofs.lemmas.List.Elements.{All-weaker}
use Rattle.ps_model.specs.names.Names.{Names}
use Rattle.ps_model.specs.board.GameGrids.{IsGridOf}
use Rattle.ps_model.specs.meaning.RuleMeanings.{RuleMeaning}
use Rattle.ps_model.specs.board.Programs.{Section, Group, Loop}
use Rattle.ps_laws.specs.KeptGrids.{Keeps, KeepsInSection, RoundsKeepGrids, SettlingKeepsGrids, GroupsKeepGrids}
use Rattle.ps_laws.specs.KeptGrids.{PassesKeepGrids, LoopsKeepGrids, SectionsKeepGrids, RunsKeepGrids}
use Rattle.ps_laws.specs.KeptGrids.{ProgramsKeepGrids}
use Rattle.ps_laws.proofs.grids.KeptPrograms.{OfGrid, RuleKeeps, SectionKeeps, round-keeps, settled-keeps, group-keeps}
use Rattle.ps_laws.proofs.grids.KeptPrograms.{pass-keeps, looped-keeps, section_run-keeps, sections_run-keeps}
use Rattle.ps_laws.proofs.grids.KeptPrograms.{program_run-keeps}
use Rattle.ps_laws.proofs.grids.KeptAttempts.{attempt-keeps}

rules_keep : (names : Names) (rules : List RuleMeaning) → All (Keeps names) rules →
    All (RuleKeeps (OfGrid (IsGridOf names))) rules
rules_keep names rules all = All-weaker (Keeps names) (RuleKeeps (OfGrid (IsGridOf names))) (λ rule keeps state h.
    attempt-keeps names rule state keeps h) rules all

body_keeps : (names : Names) (body : List (List RuleMeaning)) → All (All (Keeps names)) body →
    All (All (RuleKeeps (OfGrid (IsGridOf names)))) body
body_keeps names body all =
    All-weaker (All (Keeps names)) (All (RuleKeeps (OfGrid (IsGridOf names)))) (rules_keep names) body
    all

section_keeps : (names : Names) (section : Section) → KeepsInSection names section →
    SectionKeeps (OfGrid (IsGridOf names)) section
section_keeps names (Group rules) all = rules_keep names rules all
section_keeps names (Loop body) all = body_keeps names body all

sections_keep : (names : Names) (sections : List Section) → All (KeepsInSection names) sections →
    All (SectionKeeps (OfGrid (IsGridOf names))) sections
sections_keep names sections all = All-weaker (KeepsInSection names) (SectionKeeps (OfGrid (IsGridOf names)))
    (section_keeps names) sections all

pub round-kept : RoundsKeepGrids
round-kept names rules state all h = round-keeps (OfGrid (IsGridOf names)) rules state (rules_keep names rules all) h

pub settled-kept : SettlingKeepsGrids
settled-kept names rules rounds changed state all h =
    settled-keeps (OfGrid (IsGridOf names)) rules rounds changed state (rules_keep names rules all) h

pub group-kept : GroupsKeepGrids
group-kept names rules state all h = group-keeps (OfGrid (IsGridOf names)) rules state (rules_keep names rules all) h

pub pass-kept : PassesKeepGrids
pass-kept names body state all h = pass-keeps (OfGrid (IsGridOf names)) body state (body_keeps names body all) h

pub looped-kept : LoopsKeepGrids
looped-kept names body repeats state all h = looped-keeps (OfGrid (IsGridOf names)) body repeats state
    (body_keeps names body all) h

pub section_run-kept : SectionsKeepGrids
section_run-kept names section repeats state all h =
    section_run-keeps (OfGrid (IsGridOf names)) section repeats state (section_keeps names section all) h

pub sections_run-kept : RunsKeepGrids
sections_run-kept names sections repeats state all h =
    sections_run-keeps (OfGrid (IsGridOf names)) sections repeats state (sections_keep names sections all) h

pub program_run-kept : ProgramsKeepGrids
program_run-kept names sections state all h = program_run-keeps (OfGrid (IsGridOf names)) sections state
    (sections_keep names sections all) h
