use Rattle.std.proofs.Common.{◌≡◌, ◌∙◌, ◌-◌, suc, ap, arith}
use Rattle.ps_model.specs.board.Turns.{Script}
use Rattle.ps_model.specs.session.Sessions.{Play, Step}
use Rattle.ps_model.specs.session.KeySteps.{key_turns}
use Rattle.std.specs.declared.ops.ControlFlow.{ControlFlow}
use Rattle.std.specs.Prelude.{⊤}
use Rattle.ps_stage.specs.declared.locations.KeyEnd.{KeyEnd}
use Rattle.ps_stage.specs.Standings.{script_for, play_of}
use Rattle.ps_stage.specs.KeysShown.{key_told_step}
use Rattle.ps_stage.proofs.AgainTurns.{one_more}
use Rattle.ps_stage.specs.Meanings.{same_late, same_plain}
use Rattle.ps_stage.proofs.stage.Stage.key_turns.Goals as goal

pub returns-in-Break-clause-came : goal.returns-in-Break-clause-came
returns-in-Break-clause-came g c history =
    let count : c.loop-left.left ≡ suc (c.loop-left.left - 1) = omega arith in
    let script : Script = script_for g.B.Board.table_for c.args.self.now.game (g.R.Rules.meant c.args.rules.now.plain)
    (g.R.Rules.meant c.args.rules.now.late) in
    one_more key_turns g.B.Board.table_for c.args.self.now.game c.loop-left.self.game
    (g.R.Rules.meant c.args.rules.now.plain) (g.R.Rules.meant c.args.rules.now.late)
    (g.R.Rules.meant c.loop-left.rules.plain) (g.R.Rules.meant c.loop-left.rules.late) c.args.self.now.text
    c.loop-left.self.text
    c.args.most c.loop-left.left (c.loop-left.left - 1) (play_of history c.args.level.now)
    (play_of history c.loop-left.level)
    (λ (s : Script) (turns : Play → Step). key_told_step s c.in_ok-end.field-0 (play_of history c.key_turn.new.level)
    c.key_turn.new.self.text turns)
    c.loop-left.invariant.game (same_plain c.loop-left.invariant.meaning) (same_late c.loop-left.invariant.meaning) count
    (c.loop-left.invariant.rest history) (c.in_ok-end.ensures.told history)
    ∙ ap (λ (told : ControlFlow KeyEnd ⊤). key_told_step script told (play_of history c.key_turn.new.level) c.key_turn.new.self.text
    (key_turns script (c.loop-left.left - 1))) c.in-Break.is

pub loop-left-preserved : goal.loop-left-preserved
loop-left-preserved g c =
    let count : c.loop-left.left ≡ suc (c.loop-left.left - 1) = omega arith in
    let script : Script = script_for g.B.Board.table_for c.args.self.now.game (g.R.Rules.meant c.args.rules.now.plain)
    (g.R.Rules.meant c.args.rules.now.late) in
    record {
      game = c.in_ok-end.ensures.game ∙ c.loop-left.invariant.game;
      meaning = c.in_ok-end.ensures.meaning ∙ c.loop-left.invariant.meaning;
      basis = c.in_ok-end.ensures.basis ∙ c.loop-left.invariant.basis;
      entry = c.in_ok-end.ensures.entry ∙ c.loop-left.invariant.entry;
      rest = λ history.
          one_more key_turns g.B.Board.table_for c.args.self.now.game c.loop-left.self.game
          (g.R.Rules.meant c.args.rules.now.plain) (g.R.Rules.meant c.args.rules.now.late)
          (g.R.Rules.meant c.loop-left.rules.plain) (g.R.Rules.meant c.loop-left.rules.late) c.args.self.now.text
          c.loop-left.self.text
          c.args.most c.loop-left.left (c.loop-left.left - 1) (play_of history c.args.level.now)
          (play_of history c.loop-left.level)
          (λ (s : Script) (turns : Play → Step).
          key_told_step s c.in_ok-end.field-0 (play_of history c.key_turn.new.level) c.key_turn.new.self.text turns)
          c.loop-left.invariant.game (same_plain c.loop-left.invariant.meaning) (same_late c.loop-left.invariant.meaning) count
          (c.loop-left.invariant.rest history) (c.in_ok-end.ensures.told history)
          ∙ ap (λ (told : ControlFlow KeyEnd ⊤). key_told_step script told (play_of history c.key_turn.new.level)
          c.key_turn.new.self.text (key_turns script (c.loop-left.left - 1))) c.in-Continue.is;
    }
