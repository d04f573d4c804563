use Rattle.std.proofs.Common.{rules, ◌≡◌, ◌∙◌, ◌+◌, ◌<◌, true, false, length, drop, get_or, refl, arith}
use Rattle.ps_model.specs.text.Words.{is_blank}
use Rattle.ps_model.specs.text.RuleWords.{own_length}
use Rattle.ps_text.proofs.Solid.{solid_one, solid_more}
use Rattle.ps_text.proofs.RuleWordSteps.{rule_run_begins, rule_run_goes_on}
use Rattle.ps_text.proofs.rule_scan.rule_run_end.Goals as goal

pub loop-at-init : goal.loop-at-init
loop-at-init c =
    record {
      words = rule_run_begins c.args.line.now c.args.start c.requires.holds c.requires.in_run c.requires.no_word;
      solid = solid_one c.args.line.now c.args.start (c.args.start + 1) c.requires.in_run refl;
    }

pub loop-at-preserved : goal.loop-at-preserved
loop-at-preserved c =
    let in_run : is_blank (get_or c.args.line.now c.loop-at.at 0) ≡ false = search rules in
    let no_word : own_length true (drop c.loop-at.at c.args.line.now) ≡ 0 = omega (arith, c.own_len.ensures.own) in
    let within : c.loop-at.at < length c.args.line.now = omega arith in
    record {
      words = c.loop-at.invariant.words ∙ rule_run_goes_on c.args.line.now c.args.start c.loop-at.at within in_run
          no_word;
      solid = solid_more c.args.line.now c.args.start c.loop-at.at (c.loop-at.at + 1) c.loop-at.invariant.solid in_run
          refl;
    }
