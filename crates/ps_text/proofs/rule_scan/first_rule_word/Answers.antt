use Rattle.std.proofs.Common.{rules, ◌≡◌, ◌∙◌, ◌+◌, ◌<◌, ◌==◌, true, false, length, get_or, refl, arith}
use Rattle.std.proofs.lemmas.Str.{IsCharBoundary-start, IsCharBoundary-after_ascii}
use Rattle.ps_text.proofs.RuleWordSteps.{first_none, first_plus, first_other}
use Rattle.ps_text.proofs.Solid.{solid_one}
use Rattle.ps_text.proofs.rule_scan.first_rule_word.Goals as goal

pub past_parting-start-requires-clause-cuttable : goal.past_parting-start-requires-clause-cuttable
past_parting-start-requires-clause-cuttable c = IsCharBoundary-start c.args.line.now c.requires

pub returns-then-start-line-clause-words : goal.returns-then-start-line-clause-words
returns-then-start-line-clause-words c =
    let whole : c.past_parting-start.result ≡ length c.args.line.now = search rules in
    first_none c.args.line.now c.past_parting-start.result c.past_parting-start.ensures.place whole

pub returns-then-is_plus-clause-words : goal.returns-then-is_plus-clause-words
returns-then-is_plus-clause-words c =
    let start = c.past_parting-start.result in
    let within : start < length c.args.line.now = omega (arith, c.past_parting-start.ensures.cuttable.0) in
    let plus : (get_or c.args.line.now start 0 == 43) ≡ true = search rules in
    first_plus c.args.line.now start c.past_parting-start.ensures.place within plus

pub returns-then-is_plus-clause-range : goal.returns-then-is_plus-clause-range
returns-then-is_plus-clause-range c =
    let start = c.past_parting-start.result in
    let within : start < length c.args.line.now = omega (arith, c.past_parting-start.ensures.cuttable.0) in
    let plus : get_or c.args.line.now start 0 ≡ 43 = search rules in
    record {
      behind = omega arith;
      holds = omega arith;
      start = c.past_parting-start.ensures.cuttable;
      end = IsCharBoundary-after_ascii c.args.line.now start c.requires within (omega (arith, plus));
      solid = solid_one c.args.line.now start (start + 1) (c.past_parting-start.ensures.word within) refl;
    }

pub returns-clause-words : goal.returns-clause-words
returns-clause-words c =
    let start = c.past_parting-start.result in
    let within : start < length c.args.line.now = omega (arith, c.past_parting-start.ensures.cuttable.0) in
    let other : (get_or c.args.line.now start 0 == 43) ≡ false = search rules in
    first_other c.args.line.now start c.past_parting-start.ensures.place within other ∙ c.next_rule_word.ensures.words
