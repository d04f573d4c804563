use Rattle.ps_screen.specs.FrameTexts.{IsPatched}
use Rattle.ps_screen.proofs.FrameTexts.{text_patched}
use Rattle.ps_screen.proofs.picture.Picture.redraw.Goals as goal

pub returns-in-Ok-true-clause-frame : goal.returns-in-Ok-true-clause-frame
returns-in-Ok-true-clause-frame g c =
    let now = g.B.Board.grid c.args.board.now in
    let before = g.B.Board.grid c.args.shown.now in
    let patched : IsPatched c.self.inside.look c.args.rows now before c.patch_text-patched.new.text =
    c.in-Ok-true.ensures c.in-Ok-true.field-0-test in
    rw (← c.self.view_is) (text_patched c.self.inside.look c.args.rows now before c.requires.width c.requires.height
    c.requires.rows c.patch_text-patched.new.text patched)
