use Rattle.std.proofs.Common.{◌∙◌, ℕ, None, Option, ap, sym}
use Rattle.ps_model.specs.session.Solving.{Spot}
use Rattle.ps_turn.specs.States.{done_shown}
use Rattle.ps_trial.specs.declared.told.Came.{Came}
use Rattle.ps_trial.specs.declared.told.Told.{Told}
use Rattle.ps_trial.specs.Desks.{script_on}
use Rattle.ps_trial.specs.SilentKeys.{all_key_turns, key_told}
use Rattle.ps_trial.specs.SilentStarts.{Boards, spot_with}
use Rattle.ps_trial.specs.Told.{key_shown}
use Rattle.ps_trial.proofs.Results.{if_ok}
use Rattle.ps_trial.proofs.trial.Trial.follow_done.Goals as goal

pub returns-in-Ends-clause-came : goal.returns-in-Ends-clause-came
returns-in-Ends-clause-came g c grid =
    let turns : Boards → Option Spot = all_key_turns (script_on g.R.Rules c.args.self.now.basis c.args.rules.now) in
    let there : Boards = c.args.self.now.there in
    ap (λ (n : ℕ). key_told there (done_shown c.args.done.now grid) n turns) (sym c.again_limit-most.ensures)
    ∙ c.key_told.ensures there grid turns
    ∙ ap (λ (told : Told Came). key_shown told there turns) c.in-Ends.is
    ∙ sym (c.end_of_turn.ensures c.args.self.now.here there c.requires.same c.requires.unset)

pub returns-in-GoesOn-clause-came : goal.returns-in-GoesOn-clause-came
returns-in-GoesOn-clause-came g c =
    let turns : Boards → Option Spot = all_key_turns (script_on g.R.Rules c.args.self.now.basis c.args.rules.now) in
    let there : Boards = c.args.self.now.there in
    if_ok c.all_key_turns.result c.all_key_turns.ensures.came (λ pressed comes grid.
    ap (λ (n : ℕ). key_told there (done_shown c.args.done.now grid) n turns) (sym c.again_limit-most.ensures)
    ∙ c.key_told.ensures there grid turns
    ∙ ap (λ (told : Told Came). key_shown told there turns) c.in-GoesOn.is
    ∙ comes (spot_with c.args.self.now.here None))
