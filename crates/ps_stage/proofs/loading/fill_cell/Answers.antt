use Rattle.std.proofs.Common.{◌∙◌, ◌<◌, ℕ, List, length, get_or, fold, take, sym, ap}
use Rattle.std.specs.Prelude.{slice_set}
use Rattle.std.proofs.lemmas.List.{take_all}
use Rattle.std.proofs.lemmas.List.Sums.{fold_more}
use Rattle.ps_model.specs.declared.pieces.ObjectId.{ObjectId}
use Rattle.ps_model.specs.declared.pieces.Motion.TheVariants.{Still}
use Rattle.ps_model.specs.declared.pieces.Slot.{Slot}
use Rattle.ps_model.specs.declared.pieces.Slot.TheVariants.{Holds}
use Rattle.ps_model.specs.names.Names.{Names, layer_of}
use Rattle.ps_model.specs.board.Grid.{Grid, cell_at, with_slot}
use Rattle.ps_stage.specs.CellsLoaded.{grid_with_cell}
use Rattle.ps_stage.proofs.PartLoaded.{put_in_cell}
use Rattle.ps_stage.proofs.loading.fill_cell.Goals as goal

pub put-requires-clause-place : goal.put-requires-clause-place
put-requires-clause-place g c =
    rw c.loop-object.invariant.0 (
      c.requires.place,
      rw c.requires.layers
          (c.layer_of.ensures.within (c.requires.objects c.loop-object.object-index _ c.loop-object-test.true)),
    )

pub put-requires-clause-room : goal.put-requires-clause-room
put-requires-clause-room g c =
    rw (c.loop-object.invariant.1, c.layer_of.ensures.layer)
    (c.requires.room _ (c.requires.objects c.loop-object.object-index _ c.loop-object-test.true))

pub loop-object-preserved : goal.loop-object-preserved
loop-object-preserved g c =
    let start : Grid = g.B.Board.grid c.args.board.now in
    let names : Names = c.args.names.now in
    let zero_object : ObjectId = record { 0 = 0 } in
    let object : ObjectId = get_or c.args.objects.now c.loop-object.object-index zero_object in
    let within : c.args.cell < length start.cells = rw c.requires.shape.cells c.requires.place in
    let put = λ (slots : List Slot) (o : ObjectId). slice_set slots (layer_of names o) (Holds o Still) in (
      c.put.ensures.grid
          ∙ ap (λ (layer : ℕ). with_slot (g.B.Board.grid c.loop-object.board) c.args.cell layer (Holds object Still))
          c.layer_of.ensures.layer
          ∙ ap (λ (h : Grid). with_slot h c.args.cell (layer_of names object) (Holds object Still))
          c.loop-object.invariant.0
          ∙ put_in_cell start c.args.cell (layer_of names object)
          (fold put (cell_at start c.args.cell) (take c.loop-object.object-index c.args.objects.now))
          (Holds object Still) within
          ∙ ap (grid_with_cell start c.args.cell)
          (sym (fold_more put (cell_at start c.args.cell) c.args.objects.now c.loop-object.object-index zero_object
          c.loop-object-test.true)),
      c.put.ensures.table ∙ c.loop-object.invariant.1,
    )

pub returns-clause-filled : goal.returns-clause-filled
returns-clause-filled g c =
    let start : Grid = g.B.Board.grid c.args.board.now in
    let put = λ (slots : List Slot) (o : ObjectId). slice_set slots (layer_of c.args.names.now o) (Holds o Still) in
    c.loop-object.invariant.0
    ∙ ap (λ (objects : List ObjectId). grid_with_cell start c.args.cell (fold put (cell_at start c.args.cell) objects))
    (take_all c.loop-object.object-index c.args.objects.now c.loop-object-test.false)
