use Rattle.std.proofs.Common.{◌≡◌, ◌∙◌, ◌+◌, ◌≤◌, ◌<◌, ℕ, List, Option, ap, arith, get_or, length, subst, sym, take, true}
use Rattle.std.specs.Prelude.{IfSome, option_to_list}
use Rattle.std.specs.List.{list_all}
use Rattle.ps_model.specs.declared.pieces.ObjectId.{ObjectId}
use Rattle.ps_model.specs.declared.pieces.Slot.{Slot}
use Rattle.ps_model.specs.declared.pieces.Slot.TheVariants.{Bare}
use Rattle.ps_model.specs.board.Grid.{Grid, cell_at, object_in}
use Rattle.ps_model.specs.session.Frames.{objects_in}
use Rattle.ps_screen.specs.Glyphs.{IsAlone, stands_apart}
use Rattle.ps_screen.proofs.Objects.{objects_in-more}
use Rattle.ps_screen.proofs.StandingApart.{apart_more}
use Rattle.ps_screen.proofs.cells.mixes_below.Goals as goal

pub loop-below-preserved : goal.loop-below-preserved
loop-below-preserved g c = λ object.
    let shown : Grid = g.B.Board.grid c.args.board.now in
    let slots : List Slot = cell_at shown c.args.cell in
    let n : ℕ = c.loop-below.below in
    let within : c.args.cell < length shown.cells = rw c.requires.shape.cells c.requires.cell in
    let each : length slots ≡ shown.layers = c.requires.shape.slots c.args.cell _ within in
    let under : n < length slots = omega (arith, each, c.loop-below-test.true, c.requires.layer) in
    let found : Option ObjectId = object_in (get_or slots n Bare) in
    let alone : IfSome found (IsAlone c.args.look.now.glyphs) =
    subst (λ o. IfSome o (IsAlone c.args.look.now.glyphs)) c.object.ensures.value
    (c.mixes_in.ensures c.if-mixes_in.false) in
    ap (list_all (stands_apart c.args.look.now.glyphs object)) (objects_in-more slots n under)
    ∙ apart_more c.args.look.now.glyphs (objects_in (take n slots)) found c.loop-below.invariant alone object
