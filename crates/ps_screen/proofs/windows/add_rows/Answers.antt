use Rattle.std.proofs.Common.{subst}
use Rattle.ps_screen.specs.declared.frame_texts.FrameText.{FrameText}
use Rattle.ps_screen.specs.FrameTexts.{IsTextOf}
use Rattle.ps_screen.proofs.windows.add_rows.Goals as goal

pub add_plain_window-requires-clause-text : goal.add_plain_window-requires-clause-text
add_plain_window-requires-clause-text g c =
    subst (λ (text : FrameText). IsTextOf c.args.look.now (g.B.Board.grid c.args.board.now) text) c.in-Whole.is
    c.requires.text

pub add_window_of_rows-requires-clause-texts : goal.add_window_of_rows-requires-clause-texts
add_window_of_rows-requires-clause-texts g c =
    rw c.deref.ensures.value
    (subst (λ (text : FrameText). IsTextOf c.args.look.now (g.B.Board.grid c.args.board.now) text) c.in-Rows.is
    c.requires.text)
