use Rattle.std.proofs.Common.{length, refl, sym, true≢false, subst}
use Rattle.ps_engine.specs.Scratch.{HaveScratch}
use Rattle.ps_engine.specs.QuietGroups.{AreIdleOn}
use Rattle.ps_engine.proofs.quiet_groups.is_idle_section.Goals as goal

pub are_idle-requires-clause-motions : goal.are_idle-requires-clause-motions
are_idle-requires-clause-motions g c = c.requires.motions

pub are_idle-requires-clause-scratch : goal.are_idle-requires-clause-scratch
are_idle-requires-clause-scratch g c =
    subst (HaveScratch (length c.args.scratch.now)) (sym c.as_slice.ensures)
    (c.requires.scratch.group c.in-Group.rules c.in-Group.is)

pub returns-in-Group-clause-idle : goal.returns-in-Group-clause-idle
returns-in-Group-clause-idle g c = λ e. record {
  rules = c.in-Group.rules;
  group = c.in-Group.is;
  idle = subst (AreIdleOn (g.B.Board.grid c.args.board.now) (g.B.Board.table c.args.board.now)) c.as_slice.ensures
      (c.are_idle.ensures.idle e);
}

pub returns-in-Group-clause-scratch : goal.returns-in-Group-clause-scratch
returns-in-Group-clause-scratch g c = c.are_idle.ensures.scratch

pub returns-in-Loop-clause-idle : goal.returns-in-Loop-clause-idle
returns-in-Loop-clause-idle g c = λ e. absurd (true≢false (sym e))

pub returns-in-Loop-clause-scratch : goal.returns-in-Loop-clause-scratch
returns-in-Loop-clause-scratch g c = refl
