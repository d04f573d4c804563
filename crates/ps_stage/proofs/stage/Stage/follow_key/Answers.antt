use Rattle.std.proofs.Common.{◌≡◌, ◌∙◌, sym, ap}
use Rattle.std.specs.Prelude.{IfSome}
use Rattle.ps_model.specs.board.Turns.{Script}
use Rattle.ps_stage.specs.declared.locations.HistoryChange.{HistoryChange}
use Rattle.ps_stage.specs.KeysShown.{key_end_step}
use Rattle.ps_stage.specs.Locations.{history_behind, history_change_if}
use Rattle.ps_stage.specs.Standings.{SessionParts, basis_of, play_of, script_for}
use Rattle.ps_stage.specs.Touched.{AreTouched}
use Rattle.ps_stage.proofs.StepsCompared.{comes_too}
use Rattle.ps_stage.proofs.Scripts.{same_script}
use Rattle.ps_stage.specs.Meanings.{same_late, same_plain}
use Rattle.ps_stage.proofs.stage.Stage.follow_key.Goals.{then-done, else-done}
use Rattle.ps_stage.proofs.stage.Stage.follow_key.Goals as goal

pub finish_key-requires : goal.finish_key-requires
finish_key-requires g c =
    c.in-Ok.ensures.basis ∙ c.requires
    ∙ sym (ap (λ (parts : SessionParts). basis_of g.B.Board.table_for parts.names) c.in-Ok.ensures.game)

pub returns-in-Ok-clause-changes : goal.returns-in-Ok-clause-changes
returns-in-Ok-clause-changes g c first here touched =
    let plain = g.R.Rules.meant c.args.rules.now.plain in
    let late = g.R.Rules.meant c.args.rules.now.late in
    let script : Script = script_for g.B.Board.table_for c.args.self.now.game plain late in
    let then : Script = script_for g.B.Board.table_for c.end_key.new.self.game
    (g.R.Rules.meant c.end_key.new.rules.plain) (g.R.Rules.meant c.end_key.new.rules.late) in
    let same : then ≡ script = same_script g.B.Board.table_for c.args.self.now.game c.end_key.new.self.game plain late
    (g.R.Rules.meant c.end_key.new.rules.plain) (g.R.Rules.meant c.end_key.new.rules.late)
    c.in-Ok.ensures.game (same_plain c.in-Ok.ensures.meaning) (same_late c.in-Ok.ensures.meaning) in
    let known : IfSome c.if-done.rows (λ rows. AreTouched rows first.board c.end_key.new.level.board) =
    elim c.if-done.branch [
      | then-done w ↦ rw w.rows-is tt
      | else-done w ↦ rw (w.rows-is, c.in-Ok.ensures.ends w.if-done.false) touched
    ] in
    comes_too g.B.Board g.R.Rules c.args.self.now.game c.end_key.new.self.game c.args.rules.now c.end_key.new.rules
    first _ _ c.finish_key.result c.finish_key.new.self.text c.in-Ok.ensures.game c.in-Ok.ensures.meaning
    (λ history.
    c.in-Ok.ensures.came (history_behind (history_change_if c.args.done.now.changed) history first.board)
    ∙ ap (λ (s : Script). key_end_step s c.in-Ok.end
    (play_of (history_behind (history_change_if c.args.done.now.changed) history first.board) c.end_key.new.level)
    c.end_key.new.self.text) (sym same)
    ∙ ap (λ (change : HistoryChange). key_end_step then c.in-Ok.end
    (play_of (history_behind change history first.board) c.end_key.new.level) c.end_key.new.self.text)
    (sym c.history_change_if-history_change.ensures))
    (c.finish_key.ensures.changes first (here ∙ sym c.in-Ok.ensures.entry) known)
