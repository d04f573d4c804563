use Rattle.std.proofs.Common.{◌≡◌, ◌∙◌, ◌-◌, true, Option, List, ℕ, drop, ap, subst}
use Rattle.std.specs.Prelude.{OnOk}
use Rattle.ps_model.specs.declared.limits.TheConstants.{ROUND_LIMIT}
use Rattle.ps_model.specs.board.Attempts.{State, Result}
use Rattle.ps_model.specs.board.Programs.{round, settled}
use Rattle.ps_program.specs.declared.rules.CompiledRule.{CompiledRule}
use Rattle.ps_engine.specs.RulesInRoom.{rules_meaning}
use Rattle.ps_engine.specs.Runs.{state_of_run}
use Rattle.ps_engine.specs.Workspaces.{same_layers}
use Rattle.ps_engine.proofs.rounds.play_on.Goals as goal

pub returns-clause-settled : goal.returns-clause-settled
returns-clause-settled g c =
    let table : Option (List ℕ) = g.B.Board.table c.args.run.now.board.now in
    let now : State = state_of_run g.B.Board c.args.run.now in
    let next : State = state_of_run g.B.Board c.round.new.run in
    let rest : next ≡ (round (rules_meaning table (drop c.args.first c.args.rules.now)) now).state =
    ap (λ (r : Result). r.state) c.round.ensures.round
    ∙ ap (λ (rules : List CompiledRule). (round (rules_meaning table rules) now).state) c.split_at.ensures.back in
    let all : Result = record { state = state_of_run g.B.Board c.play_rounds.new.run; changed = true } in
    subst (λ (r : Result). OnOk c.play_rounds.result (all ≡ r))
    (ap (λ (t : Option (List ℕ)). settled (rules_meaning t c.args.rules.now) (ROUND_LIMIT - 1) true next)
    (same_layers c.round.ensures.fixed)
    ∙ ap (settled (rules_meaning table c.args.rules.now) (ROUND_LIMIT - 1) true) rest)
    c.play_rounds.ensures.settled
