use Rattle.std.proofs.Common.{◌≡◌, ℕ, ◌∙◌, Option, Some, None, List, sym, ap}
use Rattle.ps_model.specs.declared.compiled.LayeredObject.{LayeredObject}
use Rattle.ps_model.specs.declared.compiled.LayerWrite.{LayerWrite}
use Rattle.ps_model.specs.meaning.Compiled.{CellWrite, object_written, slot_freed, slot_written}
use Rattle.ps_program.specs.ProgramShown.{write_shown}
use Rattle.ps_match.specs.InRoom.{own_write}
use Rattle.ps_match.proofs.OwnWrites.{after_value}
use Rattle.ps_match.proofs.slots.slot_after.Goals as goal

pub returns-in-None : goal.returns-in-None
returns-in-None g c =
    let table : Option (List ℕ) = g.B.Board.table c.args.board.now in
    let write : CellWrite = write_shown c.args.write.now in
    let layer : ℕ = c.args.layer.0 in
    let none : None ≡ own_write table layer write.layers = c.in-None.ensures
    ∙ ap (own_write table layer) c.as_slice-2.ensures in
    c.freed-slot.ensures ∙ ap (λ (gone : List LayeredObject). slot_freed gone layer c.args.slot) c.as_slice.ensures
    ∙ ap (λ (own : Option LayerWrite). slot_written own (slot_freed write.gone layer c.args.slot)) none
    ∙ sym (after_value table layer write c.args.slot)

pub returns-in-Some : goal.returns-in-Some
returns-in-Some g c =
    let table : Option (List ℕ) = g.B.Board.table c.args.board.now in
    let write : CellWrite = write_shown c.args.write.now in
    let layer : ℕ = c.args.layer.0 in
    let each : LayerWrite = c.in-Some.each in
    let some : Some each ≡ own_write table layer write.layers = c.in-Some.ensures
    ∙ ap (own_write table layer) c.as_slice-2.ensures in
    let gone : c.freed-slot.result ≡ slot_freed write.gone layer c.args.slot =
    c.freed-slot.ensures ∙ ap (λ (gone : List LayeredObject). slot_freed gone layer c.args.slot) c.as_slice.ensures in
    c.object_after.ensures ∙ ap (object_written each.object each.motion) gone
    ∙ ap (λ (own : Option LayerWrite). slot_written own (slot_freed write.gone layer c.args.slot)) some
    ∙ sym (after_value table layer write c.args.slot)
