use Rattle.std.proofs.Common.{◌≡◌, ◌∙◌, List, ℕ, true, sym, ap, rules}
use Rattle.std.specs.Prelude.{Option}
use Rattle.std.specs.Option.{option_or}
use Rattle.ps_stage.specs.Standings.{StageValue, basis_of}
use Rattle.ps_stage.proofs.Results.{if_ok}
use Rattle.ps_stage.proofs.ShownLevels.{start_ran_of}
use Rattle.ps_stage.specs.Meanings.{same_late, same_plain}
use Rattle.ps_stage.proofs.stage.Stage.start_with.Goals as goal

pub returns-clause-came : goal.returns-clause-came
returns-clause-came g c =
    let runs : c.args.self.now.game.options.run_rules_on_level_start ≡ true = search rules in
    if_ok c.started-pending.result c.started-pending.ensures.came (λ pending comes history.
    start_ran_of g.B.Board.table_for c.args.self.now c.take_turn.new.self (g.R.Rules.meant c.args.rules.now.plain)
    (g.R.Rules.meant c.args.rules.now.late) (g.R.Rules.meant c.take_turn.new.rules.plain)
    (g.R.Rules.meant c.take_turn.new.rules.late) c.args.level.now c.take_turn.new.level history c.in_ok-turned.turned
    c.in_ok-turned.ensures.turned.0 c.args.message.now _ _ runs c.in_ok-turned.ensures.stage
    (same_plain c.in_ok-turned.ensures.meaning) (same_late c.in_ok-turned.ensures.meaning) c.in_ok-turned.ensures.turned.1
    c.in_ok-turned.ensures.turned.2
    (c.first_message-message.ensures
    ∙ ap (λ (own : Option (List ℕ)). option_or own c.args.message.now) c.message_of.ensures)
    c.is_again.ensures
    ∙ comes history)

pub started-pending-requires : goal.started-pending-requires
started-pending-requires g c =
    c.in_ok-turned.ensures.basis ∙ c.requires
    ∙ sym (ap (λ (stage : StageValue). basis_of g.B.Board.table_for stage.game.names) c.in_ok-turned.ensures.stage)
