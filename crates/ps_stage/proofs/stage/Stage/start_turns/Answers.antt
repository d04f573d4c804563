use Rattle.std.proofs.Common.{◌≡◌, ◌∙◌, ◌-◌, suc, ap, arith}
use Rattle.ps_model.specs.board.Turns.{Script}
use Rattle.ps_model.specs.session.Sessions.{Play, Step}
use Rattle.ps_model.specs.session.StartSteps.{start_turns}
use Rattle.std.specs.declared.ops.ControlFlow.{ControlFlow}
use Rattle.std.specs.Prelude.{⊤, Option}
use Rattle.ps_stage.specs.declared.locations.Pending.{Pending}
use Rattle.ps_stage.specs.Standings.{script_for, play_of}
use Rattle.ps_stage.specs.StepsShown.{told_step}
use Rattle.ps_stage.proofs.AgainTurns.{one_more}
use Rattle.ps_stage.specs.Meanings.{same_late, same_plain}
use Rattle.ps_stage.proofs.stage.Stage.start_turns.Goals as goal

pub returns-in-Break-clause-came : goal.returns-in-Break-clause-came
returns-in-Break-clause-came g c history =
    let count : c.loop-left.left ≡ suc (c.loop-left.left - 1) = omega arith in
    one_more start_turns g.B.Board.table_for c.args.self.now.game c.loop-left.self.game
    (g.R.Rules.meant c.args.rules.now.plain) (g.R.Rules.meant c.args.rules.now.late)
    (g.R.Rules.meant c.loop-left.rules.plain) (g.R.Rules.meant c.loop-left.rules.late) c.args.self.now.text
    c.loop-left.self.text
    c.args.most c.loop-left.left (c.loop-left.left - 1) (play_of history c.args.level.now)
    (play_of history c.loop-left.level)
    (λ (script : Script) (turns : Play → Step).
    told_step c.in_ok-pending.field-0 (play_of history c.start_turn.new.level) c.start_turn.new.self.text turns)
    c.loop-left.invariant.game (same_plain c.loop-left.invariant.meaning) (same_late c.loop-left.invariant.meaning) count
    (c.loop-left.invariant.rest history) (c.in_ok-pending.ensures.told history)
    ∙ ap (λ (told : ControlFlow (Option Pending) ⊤). told_step told (play_of history c.start_turn.new.level) c.start_turn.new.self.text
    (start_turns (script_for g.B.Board.table_for c.args.self.now.game (g.R.Rules.meant c.args.rules.now.plain)
    (g.R.Rules.meant c.args.rules.now.late)) (c.loop-left.left - 1))) c.in-Break.is

pub loop-left-preserved : goal.loop-left-preserved
loop-left-preserved g c =
    let count : c.loop-left.left ≡ suc (c.loop-left.left - 1) = omega arith in
    record {
      game = c.in_ok-pending.ensures.game ∙ c.loop-left.invariant.game;
      meaning = c.in_ok-pending.ensures.meaning ∙ c.loop-left.invariant.meaning;
      basis = c.in_ok-pending.ensures.basis ∙ c.loop-left.invariant.basis;
      entry = c.in_ok-pending.ensures.entry ∙ c.loop-left.invariant.entry;
      rest = λ history.
          one_more start_turns g.B.Board.table_for c.args.self.now.game c.loop-left.self.game
          (g.R.Rules.meant c.args.rules.now.plain) (g.R.Rules.meant c.args.rules.now.late)
          (g.R.Rules.meant c.loop-left.rules.plain) (g.R.Rules.meant c.loop-left.rules.late) c.args.self.now.text
          c.loop-left.self.text
          c.args.most c.loop-left.left (c.loop-left.left - 1) (play_of history c.args.level.now)
          (play_of history c.loop-left.level)
          (λ (script : Script) (turns : Play → Step).
          told_step c.in_ok-pending.field-0 (play_of history c.start_turn.new.level) c.start_turn.new.self.text
          turns)
          c.loop-left.invariant.game (same_plain c.loop-left.invariant.meaning) (same_late c.loop-left.invariant.meaning) count
          (c.loop-left.invariant.rest history) (c.in_ok-pending.ensures.told history)
          ∙ ap (λ (told : ControlFlow (Option Pending) ⊤). told_step told (play_of history c.start_turn.new.level) c.start_turn.new.self.text
          (start_turns (script_for g.B.Board.table_for c.args.self.now.game (g.R.Rules.meant c.args.rules.now.plain)
          (g.R.Rules.meant c.args.rules.now.late)) (c.loop-left.left - 1))) c.in-Continue.is;
    }
