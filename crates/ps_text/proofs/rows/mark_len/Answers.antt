use Rattle.std.proofs.Common.{rules, ◌≡◌, ◌∷◌, [], true}
use Rattle.std.specs.Prelude.{nat_eq}
use Rattle.std.specs.List.{starts_with}
use Rattle.std.proofs.lemmas.Str.{IsCharBoundary-start}
use Rattle.ps_text.proofs.LineSteps.{behind_mark}
use Rattle.ps_text.proofs.rows.mark_len.Goals as goal

pub returns-then-starts_with-clause-cuttable : goal.returns-then-starts_with-clause-cuttable
returns-then-starts_with-clause-cuttable c =
    let marked : starts_with nat_eq c.args.text.now (239 ∷ 187 ∷ 191 ∷ []) ≡ true = search rules in
    behind_mark c.args.text.now c.utf8.text marked

pub returns-else-starts_with-clause-cuttable : goal.returns-else-starts_with-clause-cuttable
returns-else-starts_with-clause-cuttable c = IsCharBoundary-start c.args.text.now c.utf8.text
