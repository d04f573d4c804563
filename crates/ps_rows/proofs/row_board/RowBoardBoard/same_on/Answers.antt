use Rattle.std.proofs.Common.{◌≡◌, ◌∙◌, ◌*◌, ◌-◌, ◌<◌, ◌≤◌, inl, inr, ℕ, List, subst, arith}
use Rattle.std.proofs.lemmas.Bool.{cases_Bool}
use Rattle.std.proofs.lemmas.Option.{same_Some}
use Rattle.ps_rows.specs.Members.{on_layer}
use Rattle.ps_rows.specs.Sameness.{AreSamePlanesOn}
use Rattle.ps_rows.specs.Showing.{AreObjectsShown}
use Rattle.ps_rows.specs.declared.used_planes.TheConstants.{MANY_PLANES}
use Rattle.ps_rows.proofs.Alike.{board_other, board_same, boards_other, other_objects, same_objects}
use Rattle.ps_rows.proofs.Passed.{layer_below, layers_more}
use Rattle.ps_rows.proofs.RowsApart.{layer_apart, other_apart}
use Rattle.ps_rows.proofs.row_board.RowBoardBoard.same_on.Goals as goal

pub same_marked_on-requires : goal.same_marked_on-requires
same_marked_on-requires g c =
    let M : ℕ → Type 0 = λ n. MANY_PLANES ≤ n in
    record {
      many = subst M c.count.ensures.value (c.are_many.ensures c.if-are_many.true);
      height = c.requires.height;
      layers = c.requires.layers;
      table = same_Some c.args.other.now.members.table.items c.args.self.now.members.table.items c.requires.table;
    }

-- what is told of each layer is told of the boards
pub returns-then-are_many : goal.returns-then-are_many
returns-then-are_many g c =
    let b = c.args.self.now in
    let o = c.args.other.now in
    let table : List ℕ = b.members.table.items in
    let tables : o.members.table.items ≡ table = same_Some o.members.table.items table c.requires.table in
    let showing : AreObjectsShown table b.planes.height o.planes.words.items (b.width * b.planes.height) =
    other_objects table o.members.table.items b.width o.width b.planes.height o.planes.height o.planes.words.items
    tables c.requires.width c.requires.height o.objects in
    let apart = other_apart table o.members.table.items b.width o.width b.planes.height o.planes.height b.layers
    o.layers c.args.rows.now b.planes.words.items o.planes.words.items tables c.requires.width c.requires.height
    c.requires.layers c.requires.only in
    rw (tables, c.requires.layers, c.requires.height, c.requires.width)
    (elim (cases_Bool c.same_marked_on.result) [
      | inl told ↦ told ∙ board_same table b.width b.planes.height b.layers b.planes.words.items o.planes.words.items
          (λ layer low. layer_apart table b.width b.planes.height b.layers c.args.rows.now b.planes.words.items
          o.planes.words.items b.planes.some_row (c.stand_still.ensures c.if-not-stand_still.false) apart layer low
          (c.same_marked_on.ensures.same told layer low))
      | inr fails ↦ fails ∙ boards_other table b.width b.planes.height b.layers b.planes.words.items o.planes.words.items
          c.same_marked_on.result fails
          (λ same. c.same_marked_on.ensures.other (λ layer low. same_objects table b.width b.planes.height
          b.planes.words.items o.planes.words.items layer b.objects showing (same layer low)))
    ])

pub same_layer_on-requires : goal.same_layer_on-requires
same_layer_on-requires g c =
    record {
      layer = layer_below c.args.self.now.layers c.loop-step.step c.loop-step-test.true;
      height = c.requires.height;
      layers = c.requires.layers;
      table = same_Some c.args.other.now.members.table.items c.args.self.now.members.table.items c.requires.table;
    }

pub loop-step-preserved : goal.loop-step-preserved
loop-step-preserved g c =
    let b = c.args.self.now in
    layers_more (λ layer. AreSamePlanesOn b.width b.planes.height c.args.rows.now b.planes.words.items
    c.args.other.now.planes.words.items (on_layer b.members.table.items layer)) b.layers c.loop-step.step
    c.loop-step.invariant (c.same_layer_on.ensures.same c.if-not-same_layer_on.false)

pub returns-then-not-same_layer_on : goal.returns-then-not-same_layer_on
returns-then-not-same_layer_on g c =
    let b = c.args.self.now in
    let o = c.args.other.now in
    let table : List ℕ = b.members.table.items in
    let layer : ℕ = b.layers - 1 - c.loop-step.step in
    let tables : o.members.table.items ≡ table = same_Some o.members.table.items table c.requires.table in
    let on : layer < b.layers = layer_below b.layers c.loop-step.step c.loop-step-test.true in
    let showing : AreObjectsShown table b.planes.height o.planes.words.items (b.width * b.planes.height) =
    other_objects table o.members.table.items b.width o.width b.planes.height o.planes.height o.planes.words.items
    tables c.requires.width c.requires.height o.objects in
    rw (tables, c.requires.layers, c.requires.height, c.requires.width)
    (board_other table b.width b.planes.height b.layers b.planes.words.items o.planes.words.items layer
    c.same_layer_on.result on c.if-not-same_layer_on.true
    (λ same. c.same_layer_on.ensures.other (same_objects table b.width b.planes.height b.planes.words.items
    o.planes.words.items layer b.objects showing same)))

pub returns : goal.returns
returns g c =
    let b = c.args.self.now in
    let o = c.args.other.now in
    let table : List ℕ = b.members.table.items in
    let tables : o.members.table.items ≡ table = same_Some o.members.table.items table c.requires.table in
    let end : b.layers ≤ c.loop-step.step = c.loop-step-test.false in
    let apart = other_apart table o.members.table.items b.width o.width b.planes.height o.planes.height b.layers
    o.layers c.args.rows.now b.planes.words.items o.planes.words.items tables c.requires.width c.requires.height
    c.requires.layers c.requires.only in
    rw (tables, c.requires.layers, c.requires.height, c.requires.width)
    (board_same table b.width b.planes.height b.layers b.planes.words.items o.planes.words.items
    (λ layer low. layer_apart table b.width b.planes.height b.layers c.args.rows.now b.planes.words.items
    o.planes.words.items b.planes.some_row (c.stand_still.ensures c.if-not-stand_still.false) apart layer low
    (c.loop-step.invariant layer low (omega arith))))
