use Rattle.std.proofs.Common.{◌≡◌, ◌∙◌, ◌-◌, ◌+◌, ◌<◌, ℕ, List, Option, None, length, take, sym, ap, append-nil, arith}
use Rattle.std.proofs.Common.{subst}
use Rattle.std.specs.Prelude.{IfSome}
use Rattle.std.proofs.lemmas.Option.{IfSome_then}
use Rattle.ps_model.specs.declared.pieces.ObjectId.{ObjectId}
use Rattle.ps_model.specs.declared.pieces.Slot.{Slot}
use Rattle.ps_model.specs.board.Grid.{Grid, cell_at}
use Rattle.ps_model.specs.session.Frames.{character_of, glyph_of_objects, objects_in}
use Rattle.ps_screen.specs.Glyphs.{Covers}
use Rattle.ps_screen.proofs.Objects.{objects_in-under}
use Rattle.ps_screen.proofs.cells.top_character.Goals as goal

pub returns-in-Some-covering : goal.returns-in-Some-covering
returns-in-Some-covering g c =
    let shown : Grid = g.B.Board.grid c.args.board.now in
    let slots : List Slot = cell_at shown c.args.cell in
    let n : ℕ = c.loop-layer.layer - 1 in
    let within : c.args.cell < length shown.cells = rw c.requires.shape.cells c.requires.cell in
    let each : length slots ≡ shown.layers = c.requires.shape.slots c.args.cell _ within in
    let under : n < length slots =
    omega (arith, each, c.loop-layer-test.true, c.loop-layer.invariant.low) in
    let next : c.loop-layer.layer ≡ n + 1 = omega (arith, c.loop-layer-test.true) in
    let all = objects_in-under slots c.loop-layer.layer n _ next under c.loop-layer.invariant.under
    c.in-Some.ensures.value in
    let P : Option ℕ → Type 0 = λ o. IfSome o (Covers c.args.look.now c.in-Some.object) in
    let covers : Covers c.args.look.now c.in-Some.object c.in-Some-covering.character =
    subst P c.in-Some-covering.is c.covering.ensures in
    covers (objects_in (take n slots))
    ∙ ap (λ (objects : List ObjectId). character_of (glyph_of_objects c.args.look.now objects)) (sym all)

pub returns-in-None : goal.returns-in-None
returns-in-None g c =
    let shown : Grid = g.B.Board.grid c.args.board.now in
    let slots : List Slot = cell_at shown c.args.cell in
    let n : ℕ = c.loop-layer.layer - 1 in
    let within : c.args.cell < length shown.cells = rw c.requires.shape.cells c.requires.cell in
    let each : length slots ≡ shown.layers = c.requires.shape.slots c.args.cell _ within in
    let under : n < length slots =
    omega (arith, each, c.loop-layer-test.true, c.loop-layer.invariant.low) in
    let next : c.loop-layer.layer ≡ n + 1 = omega (arith, c.loop-layer-test.true) in
    let all = objects_in-under slots c.loop-layer.layer n _ next under c.loop-layer.invariant.under
    c.in-Some.ensures.value in
    IfSome_then c.apart_character.result c.apart_character.ensures (λ character is.
    is ∙ ap (λ (objects : List ObjectId). character_of (glyph_of_objects c.args.look.now objects)) (sym all))

pub loop-layer-preserved : goal.loop-layer-preserved
loop-layer-preserved g c =
    let shown : Grid = g.B.Board.grid c.args.board.now in
    let slots : List Slot = cell_at shown c.args.cell in
    let n : ℕ = c.loop-layer.layer - 1 in
    let within : c.args.cell < length shown.cells = rw c.requires.shape.cells c.requires.cell in
    let each : length slots ≡ shown.layers = c.requires.shape.slots c.args.cell _ within in
    let under : n < length slots =
    omega (arith, each, c.loop-layer-test.true, c.loop-layer.invariant.low) in
    let next : c.loop-layer.layer ≡ n + 1 = omega (arith, c.loop-layer-test.true) in
    record {
      some = omega (arith, c.loop-layer-test.true);
      low = omega (arith, c.loop-layer.invariant.low);
      under = objects_in-under slots c.loop-layer.layer n None next under c.loop-layer.invariant.under
          (sym c.in_default.is ∙ c.object.ensures.value) ∙ append-nil (objects_in (take n slots));
    }
