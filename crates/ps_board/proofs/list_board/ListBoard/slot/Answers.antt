use Rattle.std.proofs.Common.{◌∙◌, sym, ap, ◌*◌, get_or, [], ℕ, arith}
use Rattle.std.proofs.lemmas.Grind.{common_steps}
use Rattle.ps_model.specs.declared.pieces.Slot.TheVariants.{Bare}
use Rattle.ps_board.proofs.Cells.{first_chunks-get}
use Rattle.ps_board.proofs.list_board.ListBoard.slot.Goals as goal

pub returns : goal.returns
returns c =
    (c.index.ensures ∙ ap (λ (i : ℕ). get_or c.args.self.now.slots.items i c.index.result.now) c.place.ensures.place
    ∙ grind (arith, common_steps))
    ∙ sym (first_chunks-get c.args.self.now.layers (c.args.self.now.width * c.args.self.now.height) c.args.cell
    c.args.layer.0 c.args.self.now.slots.items Bare [] c.requires.layer c.requires.cell)
