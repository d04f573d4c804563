use Rattle.std.proofs.Common.{◌∙◌, sym, ap, ◌≡◌}
use Rattle.ps_stage.specs.Standings.{SessionParts, StageValue, Standing, basis_of}
use Rattle.ps_stage.proofs.StepsCompared.{comes_too}
use Rattle.ps_stage.proofs.KeyChanges.{key_gone_on}
use Rattle.ps_stage.specs.Meanings.{same_late, same_plain}
use Rattle.ps_stage.proofs.stage.Stage.go_on_with_key.Goals as goal

pub finish_key-requires : goal.finish_key-requires
finish_key-requires g c =
    c.in_ok-end.ensures.basis
    ∙ ap (λ (level : Standing). level.basis) c.in_ok-next.ensures.copy
    ∙ c.requires
    ∙ sym (ap (λ (parts : SessionParts). basis_of g.B.Board.table_for parts.names) c.in_ok-end.ensures.game
    ∙ ap (λ (stage : StageValue). basis_of g.B.Board.table_for stage.game.names) c.in_ok-next.ensures.stage)

pub returns-clause-changes : goal.returns-clause-changes
returns-clause-changes g c =
    let plain = g.R.Rules.meant c.args.rules.now.plain in
    let late = g.R.Rules.meant c.args.rules.now.late in
    let same : c.key_turns.new.level.entry ≡ c.args.level.now.entry =
    c.in_ok-end.ensures.entry ∙ ap (λ (level : Standing). level.entry) c.in_ok-next.ensures.copy in
    comes_too g.B.Board g.R.Rules c.args.self.now.game c.key_turns.new.self.game c.args.rules.now c.key_turns.new.rules
    c.args.level.now _ _ c.finish_key.result c.finish_key.new.self.text
    (c.in_ok-end.ensures.game ∙ ap (λ (stage : StageValue). stage.game) c.in_ok-next.ensures.stage)
    c.in_ok-end.ensures.meaning
    (λ history. key_gone_on g.B.Board.table_for c.args.self.now c.copied.new.self c.key_turns.new.self plain late
    (g.R.Rules.meant c.key_turns.new.rules.plain) (g.R.Rules.meant c.key_turns.new.rules.late) c.args.level.now
    c.in_ok-next.next c.key_turns.new.level history c.args.left c.in_ok-end.end c.in_ok-next.ensures.stage
    c.in_ok-next.ensures.copy c.in_ok-end.ensures.game (same_plain c.in_ok-end.ensures.meaning)
    (same_late c.in_ok-end.ensures.meaning) (c.in_ok-end.ensures.came history))
    (c.finish_key.ensures.changes c.args.level.now (sym same) tt)
