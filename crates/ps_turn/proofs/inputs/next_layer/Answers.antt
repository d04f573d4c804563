use Rattle.std.proofs.Common.{◌≡◌, ◌∙◌, ℕ, ◌+◌, ◌*◌, ◌<◌, inl, inr, Bool, List, [], sym, ap, arith}
use Rattle.std.proofs.lemmas.Bool.{cases_lt}
use Rattle.ps_model.specs.declared.limits.TheConstants.{SIDE_LIMIT}
use Rattle.ps_model.specs.board.Grid.{Grid, slot_at}
use Rattle.ps_model.specs.meaning.Compiled.{slot_holds}
use Rattle.ps_board.specs.ColumnSets.{column_at, set_columns}
use Rattle.ps_board.proofs.ColumnLaws.{column_at-where, none_in}
use Rattle.ps_turn.proofs.inputs.next_layer.Goals as goal

pub loop-layer-init : goal.loop-layer-init
loop-layer-init g c = λ layer low high. absurd (omega (arith, low, high))

pub loop-layer-preserved : goal.loop-layer-preserved
loop-layer-preserved g c = λ layer low high x across.
    let grid : Grid = g.B.Board.grid c.args.board.now in
    elim (cases_lt layer c.loop-layer.layer) [
      | inl before ↦ c.loop-layer.invariant layer low before x across
      | inr last ↦
          let same : layer ≡ c.loop-layer.layer = omega (arith, high, last) in
          let narrow : x < SIDE_LIMIT = omega (arith, across, c.recall_shape.ensures.shape.columns) in
          let empty : set_columns c.holders-columns.result ≡ [] = c.is_empty.ensures.none cc in
          let stands : ℕ → Bool = λ y. slot_holds c.args.object
          (slot_at grid (y * grid.height + c.args.row) c.loop-layer.layer) in
          rw same (sym (ap (λ (columns : List Bool). column_at columns x) c.holders-columns.ensures
          ∙ column_at-where stands x narrow) ∙ none_in c.holders-columns.result x empty narrow)
    ]

pub returns-clause-none : goal.returns-clause-none
returns-clause-none g c = λ none layer low high x across.
    c.loop-layer.invariant layer low (omega (arith, high, c.loop-layer-test.false, c.layers-layer-end.ensures)) x across
