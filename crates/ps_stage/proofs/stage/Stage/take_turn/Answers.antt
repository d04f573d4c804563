use Rattle.ps_stage.proofs.stage.Stage.take_turn.Goals as goal

pub returns-clause-stage : goal.returns-clause-stage
returns-clause-stage g c = c.self.view_is
