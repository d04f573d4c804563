use Rattle.std.proofs.Common.{◌∙◌, ◌++◌, List, ℕ, ap, subst}
use Rattle.std.proofs.lemmas.Result.{on_ok_weaker}
use Rattle.std.specs.Prelude.{codes}
use Rattle.std.specs.List.{flat_map}
use Rattle.ps_screen.specs.declared.frame_texts.FrameText.{FrameText}
use Rattle.ps_screen.specs.FrameTexts.{IsTextOf}
use Rattle.ps_screen.specs.KeptRows.{AreRowsOf}
use Rattle.ps_screen.specs.PlainFrames.{IsPlainFrame}
use Rattle.ps_screen.proofs.KeptRows.{rows_joined}
use Rattle.ps_screen.proofs.PlainFrames.{plain_frame}
use Rattle.ps_screen.proofs.frame_texts.add_text.Goals as goal

pub returns-in-Whole-clause-added : goal.returns-in-Whole-clause-added
returns-in-Whole-clause-added g c =
    let grid = g.B.Board.grid c.args.board.now in
    let plain : IsPlainFrame c.args.look.now grid c.in-Whole.whole =
    subst (λ (text : FrameText). IsTextOf c.args.look.now grid text) c.in-Whole.is c.requires in
    on_ok_weaker c.add.result (λ added. added ∙ ap (λ (text : List ℕ). c.args.output.now ++ text) (c.bytes.ensures
    ∙ plain_frame c.args.look.now grid c.in-Whole.whole plain)) c.add.ensures.added

pub returns-in-Rows-clause-added : goal.returns-in-Rows-clause-added
returns-in-Rows-clause-added g c =
    let grid = g.B.Board.grid c.args.board.now in
    let rows : AreRowsOf c.args.look.now grid c.in-Rows.rows.items =
    subst (λ (text : FrameText). IsTextOf c.args.look.now grid text) c.in-Rows.is c.requires in
    on_ok_weaker c.add_frame.result
    (λ added. added ∙ ap (λ (text : List ℕ). c.args.output.now ++ text)
    (ap (λ (texts : List (List ℕ)). flat_map (λ (row : List ℕ). row) texts ++ codes "\n") c.deref.ensures.value
    ∙ rows_joined c.args.look.now grid c.in-Rows.rows.items rows)) c.add_frame.ensures.added
