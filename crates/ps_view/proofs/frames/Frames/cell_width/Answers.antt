use Rattle.ps_view.proofs.frames.Frames.cell_width.Goals as goal

pub returns-clause-some : goal.returns-clause-some
returns-clause-some c = c.self.invariant.some
