use Rattle.std.proofs.Common.{◌≡◌, ◌∙◌, ℕ, ◌-◌, ◌<◌, false, true, length, refl, sym, arith}
use Rattle.std.proofs.lemmas.Option.{slice_get_read, slice_get_within}
use Rattle.ps_engine.proofs.Choosing.{fit_more, unfit_passed}
use Rattle.ps_engine.proofs.walking.slowest_unfit.Goals as goal

pub returns-then-not-fits-clause-passed : goal.returns-then-not-fits-clause-passed
returns-then-not-fits-clause-passed g c =
    let n : ℕ = c.loop-number.number - 1 in
    let low : n < length c.args.rows.now = omega (arith, c.loop-number-test.true, c.loop-number.invariant.low) in
    let no : c.fits.result ≡ false = c.if-not-fits.true in
    unfit_passed (g.B.Board.grid c.args.board.now) (g.B.Board.table c.args.board.now) n c.args.rows.now
    c.args.scratch.now c.index-rows-number.result c.index-scratch-number.result
    (slice_get_read c.args.rows.now _ n c.index-rows-number.result refl low c.index-rows-number.is)
    (slice_get_read c.args.scratch.now _ n c.index-scratch-number.result refl (omega (arith, low, c.requires))
    c.index-scratch-number.is)
    (sym c.fits.ensures ∙ no)

pub loop-number-preserved : goal.loop-number-preserved
loop-number-preserved g c =
    let n : ℕ = c.loop-number.number - 1 in
    let low : n < length c.args.rows.now = omega (arith, c.loop-number-test.true, c.loop-number.invariant.low) in
    let yes : c.fits.result ≡ true = c.if-not-fits.false in
    record {
      low = omega (arith, low);
      slower =
          fit_more (g.B.Board.grid c.args.board.now) (g.B.Board.table c.args.board.now) n c.loop-number.number
          c.args.rows.now c.args.scratch.now c.index-rows-number.result c.index-scratch-number.result
          (slice_get_read c.args.rows.now _ n c.index-rows-number.result refl low c.index-rows-number.is)
          (slice_get_read c.args.scratch.now _ n c.index-scratch-number.result refl (omega (arith, low, c.requires))
          c.index-scratch-number.is)
          (sym c.fits.ensures ∙ yes) (omega (arith, c.loop-number-test.true)) c.loop-number.invariant.slower;
    }

pub returns-clause-slower : goal.returns-clause-slower
returns-clause-slower g c = λ k row row_scratch low is there.
    c.loop-number.invariant.slower k row row_scratch (omega (arith, low, c.loop-number-test.false)) is there

pub loop-number-init : goal.loop-number-init
loop-number-init g c = record {
  low = omega arith;
  slower = λ k row row_scratch far is there. absurd (omega (arith, far, slice_get_within c.args.rows.now k row is));
}

pub returns-then-not-fits-clause-slower : goal.returns-then-not-fits-clause-slower
returns-then-not-fits-clause-slower g c = λ k row row_scratch low is there.
    c.loop-number.invariant.slower k row row_scratch (omega (arith, low, c.loop-number-test.true)) is there

pub returns-clause-passed : goal.returns-clause-passed
returns-clause-passed g c = refl
