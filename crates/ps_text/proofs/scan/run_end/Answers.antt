use Rattle.std.proofs.Common.{rules, ◌≡◌, ◌∙◌, ◌+◌, ◌<◌, false, length, get_or, refl, arith}
use Rattle.ps_model.specs.text.Words.{parts_words, stands_alone}
use Rattle.ps_text.proofs.Solid.{solid_one, solid_more}
use Rattle.ps_text.proofs.WordSteps.{run_begins, run_goes_on, no_parting_no_blank}
use Rattle.ps_text.proofs.scan.run_end.Goals as goal

pub loop-at-init : goal.loop-at-init
loop-at-init c =
    record {
      words = run_begins c.args.cut c.args.line.now c.args.start c.requires.holds c.requires.in_run c.requires.no_word;
      solid = solid_one c.args.line.now c.args.start (c.args.start + 1)
          (no_parting_no_blank c.args.cut _ c.requires.in_run) refl;
    }

pub loop-at-preserved : goal.loop-at-preserved
loop-at-preserved c =
    let in_run : parts_words c.args.cut (get_or c.args.line.now c.loop-at.at 0) ≡ false = search rules in
    let no_word : stands_alone c.args.cut (get_or c.args.line.now c.loop-at.at 0) ≡ false = search rules in
    let within : c.loop-at.at < length c.args.line.now = omega arith in
    record {
      words = c.loop-at.invariant.words ∙ run_goes_on c.args.cut c.args.line.now c.args.start c.loop-at.at within
          in_run no_word;
      solid = solid_more c.args.line.now c.args.start c.loop-at.at (c.loop-at.at + 1) c.loop-at.invariant.solid
          (no_parting_no_blank c.args.cut _ in_run) refl;
    }
