use Rattle.std.proofs.Common.{◌∙◌, sym}
use Rattle.ps_board.proofs.SameSlots.{same_boards}
use Rattle.ps_board.proofs.list_board.ListBoardBoard.same.Goals as goal

pub returns : goal.returns
returns c =
    let b = c.args.self.now in
    let o = c.args.other.now in
    c.same_slots.ensures
    ∙ rw (c.as_slice.ensures.value, c.as_slice-2.ensures.value)
    (same_boards b.width b.height b.layers o.width o.height o.layers b.slots.items o.slots.items c.requires.width
    c.requires.height c.requires.layers (sym b.slots.ok.0 ∙ b.whole) (sym o.slots.ok.0 ∙ o.whole))
