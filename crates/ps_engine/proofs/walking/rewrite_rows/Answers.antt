use Rattle.std.proofs.Common.{◌≡◌, ◌∙◌, ℕ, ◌+◌, ◌<◌, List, Option, length, refl, sym, ap, ap₂, arith}
use Rattle.std.proofs.lemmas.Option.{slice_get_read}
use Rattle.ps_model.specs.board.Attempts.{Rewritten, rewritten_along}
use Rattle.ps_places.specs.RowPlaces.{cells_meaning, place_at}
use Rattle.ps_engine.proofs.Choosing.{first_of_fitting}
use Rattle.ps_engine.proofs.Rewriting.{none_there, rewritten_end, rewritten_from, rewritten_more, same_height}
use Rattle.ps_engine.proofs.Rewriting.{some_there}
use Rattle.ps_match.specs.FixedParts.{same_layers, same_sides}
use Rattle.ps_engine.proofs.walking.rewrite_rows.Goals as goal

pub loop-number-init : goal.loop-number-init
loop-number-init g c =
    let table : Option (List ℕ) = g.B.Board.table c.args.board.now in
    let height : ℕ = (g.B.Board.grid c.args.board.now).height in
    let row = c.index-rows-0.result in
    let row_scratch = c.index-scratch-0.result in
    let before : Rewritten = record { grid = g.B.Board.grid c.args.board.now; changed = c.args.changed } in
    let some : 0 < length c.args.rows.now =
    some_there c.args.rows.now (sym c.is_empty.ensures ∙ c.if-is_empty.false) in
    record {
      rewritten =
          ap (rewritten_from table height c.args.rows.now c.args.scratch.now 1) c.rewrite_fitting-any.ensures.rewritten
          ∙ sym (rewritten_more table height 0 1 c.args.rows.now c.args.scratch.now row row_scratch before
          (slice_get_read c.args.rows.now _ 0 row refl some c.index-rows-0.is)
          (slice_get_read c.args.scratch.now _ 0 row_scratch refl (omega (arith, some, c.requires.long)) c.index-scratch-0.is)
          refl);
      fixed = c.rewrite_fitting-any.ensures.fixed;
    }

pub loop-number-preserved : goal.loop-number-preserved
loop-number-preserved g c =
    let n : ℕ = c.loop-number.number in
    let table : Option (List ℕ) = g.B.Board.table c.args.board.now in
    let height : ℕ = (g.B.Board.grid c.args.board.now).height in
    let row = c.index-rows-number.result in
    let row_scratch = c.index-scratch-number.result in
    let before : Rewritten = record { grid = g.B.Board.grid c.loop-number.board; changed = c.loop-number.any } in
    let after : Rewritten = record { grid = g.B.Board.grid c.rewrite-any.new.board; changed = c.rewrite-any.result } in
    let high : before.grid.height ≡ height = same_height before.grid (g.B.Board.grid c.args.board.now)
    (same_sides c.loop-number.invariant.fixed) in
    let wrote : after ≡ rewritten_along before (cells_meaning table row.parts) (place_at height row row_scratch) =
    c.rewrite-any.ensures.rewritten ∙ ap₂ (λ (t : Option (List ℕ)) (h : ℕ).
    rewritten_along before (cells_meaning t row.parts) (place_at h row row_scratch)) (same_layers c.loop-number.invariant.fixed) high in
    record {
      rewritten =
          ap (rewritten_from table height c.args.rows.now c.args.scratch.now (n + 1)) wrote
          ∙ sym (rewritten_more table height n (n + 1) c.args.rows.now c.args.scratch.now row row_scratch before
          (slice_get_read c.args.rows.now _ n row refl c.loop-number-test.true c.index-rows-number.is)
          (slice_get_read c.args.scratch.now _ n row_scratch refl (omega (arith, c.loop-number-test.true, c.requires.long))
          c.index-scratch-number.is) (omega arith))
          ∙ c.loop-number.invariant.rewritten;
      fixed = c.rewrite-any.ensures.fixed ∙ c.loop-number.invariant.fixed;
    }

pub rewrite_fitting-any-requires-clause-fits : goal.rewrite_fitting-any-requires-clause-fits
rewrite_fitting-any-requires-clause-fits g c =
    let some : 0 < length c.args.rows.now =
    some_there c.args.rows.now (sym c.is_empty.ensures ∙ c.if-is_empty.false) in
    first_of_fitting (g.B.Board.grid c.args.board.now) (g.B.Board.table c.args.board.now) c.args.rows.now
    c.args.scratch.now c.index-rows-0.result c.index-scratch-0.result
    (slice_get_read c.args.rows.now _ 0 c.index-rows-0.result refl some c.index-rows-0.is)
    (slice_get_read c.args.scratch.now _ 0 c.index-scratch-0.result refl (omega (arith, some, c.requires.long))
    c.index-scratch-0.is) c.requires.fit

pub returns-then-is_empty-clause-rewritten : goal.returns-then-is_empty-clause-rewritten
returns-then-is_empty-clause-rewritten g c =
    sym (rewritten_end (g.B.Board.table c.args.board.now) (g.B.Board.grid c.args.board.now).height 0 c.args.rows.now
    c.args.scratch.now (record { grid = g.B.Board.grid c.args.board.now; changed = c.args.changed })
    (none_there c.args.rows.now (sym c.is_empty.ensures ∙ c.if-is_empty.true)))

pub returns-then-is_empty-clause-fixed : goal.returns-then-is_empty-clause-fixed
returns-then-is_empty-clause-fixed g c = refl

pub rewrite_fitting-any-requires-clause-spaced : goal.rewrite_fitting-any-requires-clause-spaced
rewrite_fitting-any-requires-clause-spaced g c =
    let some : 0 < length c.args.rows.now =
    some_there c.args.rows.now (sym c.is_empty.ensures ∙ c.if-is_empty.false) in
    (c.requires.places 0 c.index-rows-0.result c.index-scratch-0.result (omega arith)
    (slice_get_read c.args.rows.now _ 0 c.index-rows-0.result refl some c.index-rows-0.is)
    (slice_get_read c.args.scratch.now _ 0 c.index-scratch-0.result refl (omega (arith, some, c.requires.long))
    c.index-scratch-0.is)).spaced

pub returns-clause-rewritten : goal.returns-clause-rewritten
returns-clause-rewritten g c =
    sym (rewritten_end (g.B.Board.table c.args.board.now) (g.B.Board.grid c.args.board.now).height c.loop-number.number
    c.args.rows.now c.args.scratch.now
    (record { grid = g.B.Board.grid c.loop-number.board; changed = c.loop-number.any }) c.loop-number-test.false)
    ∙ c.loop-number.invariant.rewritten

pub returns-clause-fixed : goal.returns-clause-fixed
returns-clause-fixed g c = c.loop-number.invariant.fixed
