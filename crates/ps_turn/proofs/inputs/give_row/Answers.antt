use Rattle.std.proofs.Common.{◌≡◌, ◌∙◌, ℕ, ◌+◌, ◌*◌, ◌<◌, ◌≤◌, inl, inr, [], ◌∷◌, length, map, refl, subst, ap, arith}
use Rattle.std.proofs.lemmas.Bool.{cases_lt}
use Rattle.ps_model.specs.declared.pieces.Slot.{Slot}
use Rattle.ps_model.specs.board.Grid.{Grid, IsGrid, cell_at}
use Rattle.ps_board.proofs.PassedColumns.{cell_below}
use Rattle.ps_turn.specs.Sweeps.{IsLayerChanged, slot_set_moving}
use Rattle.ps_turn.proofs.CellsChanged.{changed_height, changed_then, changed_width, none_changed}
use Rattle.ps_turn.proofs.OneObject.{none_layer}
use Rattle.ps_turn.proofs.SlotsChanged.{cell_of_slots, slots_long}
use Rattle.ps_turn.proofs.inputs.give_row.Goals as goal

pub loop-found-init : goal.loop-found-init
loop-found-init g c =
    record {
      changed = none_changed (map (slot_set_moving (c.args.object ∷ []) c.args.motion))
          (g.B.Board.grid c.args.board.now);
      reached = omega arith;
      passed = λ layer low. absurd (omega (arith, low));
      table = refl;
      origin = refl;
    }

pub next_layer-requires : goal.next_layer-requires
next_layer-requires g c =
    rw (changed_height (map (slot_set_moving (c.args.object ∷ []) c.args.motion)) (g.B.Board.grid c.args.board.now)
    (g.B.Board.grid c.loop-found.board) c.loop-found.invariant.changed)
    c.requires

pub give_layer-requires-clause-layer : goal.give_layer-requires-clause-layer
give_layer-requires-clause-layer g c = c.in-Some.ensures.layer

pub give_layer-requires-clause-row : goal.give_layer-requires-clause-row
give_layer-requires-clause-row g c =
    rw (changed_height (map (slot_set_moving (c.args.object ∷ []) c.args.motion)) (g.B.Board.grid c.args.board.now)
    (g.B.Board.grid c.loop-found.board) c.loop-found.invariant.changed)
    c.requires

pub give_layer-requires-clause-columns : goal.give_layer-requires-clause-columns
give_layer-requires-clause-columns g c = c.in-Some.ensures.columns

pub loop-found-preserved : goal.loop-found-preserved
loop-found-preserved g c =
    let start : Grid = g.B.Board.grid c.args.board.now in
    let now : Grid = g.B.Board.grid c.loop-found.board in
    let next : Grid = g.B.Board.grid c.give_layer.new.board in
    let change : Slot → Slot = slot_set_moving (c.args.object ∷ []) c.args.motion in
    let found : ℕ = c.in-Some.found.layer in
    let inv = c.loop-found.invariant in
    let here : IsLayerChanged change start next found c.args.row =
    subst (λ (sides : Grid). IsLayerChanged change sides next found c.args.row) inv.changed.sides
    c.give_layer.ensures.here in
    record {
      changed = changed_then (map change) start now next inv.changed c.give_layer.ensures.changed;
      reached =
          let low : found < now.layers = c.in-Some.ensures.layer in
          let deep : now.layers ≡ start.layers = ap (λ (h : Grid). h.layers) inv.changed.sides in
          omega (arith, low, deep);
      passed = λ layer low x across. elim (cases_lt layer c.loop-found.first) [
        | inl before ↦
            c.give_layer.ensures.stays (x * start.height + c.args.row) layer (inv.passed layer before x across)
        | inr on ↦ elim (cases_lt layer found) [
          | inl between ↦ c.give_layer.ensures.stays (x * start.height + c.args.row) layer
              (none_layer c.args.object c.args.motion start now layer c.args.row
              (changed_width (map change) start now inv.changed) (changed_height (map change) start now inv.changed)
              (c.in-Some.ensures.between layer on between) x across)
          | inr last ↦ let same : layer ≡ found = omega (arith, low, last) in rw same (here x across)
        ]
      ];
      table = c.give_layer.ensures.table ∙ inv.table;
      origin = c.give_layer.ensures.origin ∙ inv.origin;
    }

pub loop-found-smaller : goal.loop-found-smaller
loop-found-smaller g c =
    let low : c.in-Some.found.layer < (g.B.Board.grid c.loop-found.board).layers = c.in-Some.ensures.layer in
    let on : c.loop-found.first ≤ c.in-Some.found.layer = c.in-Some.ensures.on in
    let deep : (g.B.Board.grid c.loop-found.board).layers ≡ (g.B.Board.grid c.args.board.now).layers =
    ap (λ (h : Grid). h.layers) c.loop-found.invariant.changed.sides in
    omega (arith, low, on, deep)

pub returns-clause-here : goal.returns-clause-here
returns-clause-here g c = λ x across.
    let start : Grid = g.B.Board.grid c.args.board.now in
    let now : Grid = g.B.Board.grid c.loop-found.board in
    let change : Slot → Slot = slot_set_moving (c.args.object ∷ []) c.args.motion in
    let inv = c.loop-found.invariant in
    let shape : IsGrid start = c.recall_shape.ensures.shape in
    let cell : ℕ = x * start.height + c.args.row in
    let within : cell < length start.cells =
    rw shape.cells (cell_below start.width start.height x c.args.row across c.requires) in
    let long : length (cell_at now cell) ≡ start.layers =
    slots_long change start now inv.changed cell within ∙ shape.slots cell _ within in
    let deep : now.layers ≡ start.layers = ap (λ (h : Grid). h.layers) inv.changed.sides in
    let few : length (cell_at now cell) ≤ now.layers = rw (long, deep) (omega arith) in
    cell_of_slots change now cell now.layers few (λ layer low. elim (cases_lt layer c.loop-found.first) [
      | inl before ↦ inv.passed layer before x across
      | inr on ↦ none_layer c.args.object c.args.motion start now layer c.args.row
          (changed_width (map change) start now inv.changed) (changed_height (map change) start now inv.changed)
          (c.in_default.ensures.none refl layer on low) x across
    ])
