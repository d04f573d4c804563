use Rattle.std.proofs.Common.{rules, ◌≡◌, ◌∙◌, ◌-◌, ◌<◌, true, false, length, get_or, sym, ap, arith}
use Rattle.std.specs.Prelude.{slice_range}
use Rattle.std.proofs.lemmas.Str.{IsCharBoundary-before_ascii}
use Rattle.ps_model.specs.text.Words.{is_blank}
use Rattle.ps_model.specs.declared.texts.Cut.TheVariants.{Blanks}
use Rattle.ps_model.specs.text.Lines.{without_blank_end}
use Rattle.ps_text.proofs.WordSteps.{parting_is_ascii}
use Rattle.ps_text.proofs.BlankEnds.{one_blank_less, ends_here}
use Rattle.ps_text.proofs.regions.blank_end.Goals as goal

pub returns-then-not-is_blank_byte-clause-place : goal.returns-then-not-is_blank_byte-clause-place
returns-then-not-is_blank_byte-clause-place c =
    let other : is_blank (get_or c.args.line.now (c.loop-end.end - 1) 0) ≡ false = search rules in
    let size : length (without_blank_end (slice_range c.args.line.now c.args.from c.loop-end.end)) ≡ c.loop-end.end -
    c.args.from =
    ends_here c.args.line.now c.args.from c.loop-end.end c.loop-end-test.true c.loop-end.invariant.cuttable.0 other in
    omega (arith, size, c.loop-end.invariant.same, c.loop-end.invariant.behind)

pub loop-end-preserved : goal.loop-end-preserved
loop-end-preserved c =
    let blank : is_blank (get_or c.args.line.now (c.loop-end.end - 1) 0) ≡ true = search rules in
    let within : c.loop-end.end - 1 < length c.args.line.now = omega (arith, c.loop-end.invariant.cuttable.0) in
    record {
      same = ap length (sym (one_blank_less c.args.line.now c.args.from c.loop-end.end c.loop-end-test.true
          c.loop-end.invariant.cuttable.0 blank)) ∙ c.loop-end.invariant.same;
      behind = omega arith;
      cuttable = IsCharBoundary-before_ascii c.args.line.now (c.loop-end.end - 1) within
          (parting_is_ascii Blanks _ blank);
    }
