use Rattle.std.proofs.Common.{rules, ◌≡◌, ◌+◌, ℕ, true, get_or, subst, arith}
use Rattle.std.specs.Str.{IsCharBoundary}
use Rattle.std.proofs.lemmas.Str.{IsCharBoundary-after_ascii}
use Rattle.ps_model.specs.text.RuleWords.{is_own_word}
use Rattle.ps_text.specs.WordRanges.{IsArrow}
use Rattle.ps_text.proofs.RuleWordSteps.{mark_is_ascii}
use Rattle.ps_text.proofs.rule_scan.own_len.Goals as goal

pub returns-then-is_arrow_at-clause-cuttable : goal.returns-then-is_arrow_at-clause-cuttable
returns-then-is_arrow_at-clause-cuttable c _some =
    let line = c.args.line.now in
    let at = c.args.at in
    let arrow : IsArrow line at = search rules in
    let behind : at + 1 + 1 ≡ at + 2 = omega arith in
    subst (λ (n : ℕ). IsCharBoundary line n) behind
    (IsCharBoundary-after_ascii line (at + 1) c.requires.utf8 arrow.within (omega (arith, arrow.second)))

pub returns-then-is_mark-clause-cuttable : goal.returns-then-is_mark-clause-cuttable
returns-then-is_mark-clause-cuttable c _some =
    let mark : is_own_word c.args.within (get_or c.args.line.now c.args.at 0) ≡ true = search rules in
    IsCharBoundary-after_ascii c.args.line.now c.args.at c.requires.utf8 c.requires.there
    (mark_is_ascii c.args.within _ mark)
