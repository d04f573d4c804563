-- Origins in the making: those of one more reading are put last.
use Rattle.std.proofs.Common.{◌≡◌, ◌∙◌, Bool, true, false, cond, List, [], ◌∷◌, ◌++◌, map, sym, ap, append_assoc}
use Rattle.std.specs.Prelude.{filter}
use Rattle.std.proofs.lemmas.List.{append-nil}
use Rattle.ps_model.specs.names.Names.{Names}
use Rattle.ps_model.specs.rules.SourceRules.{SourceRule}
use Rattle.ps_model.specs.meaning.Readings.{Reading}
use Rattle.ps_model.specs.meaning.ReadingMeanings.{is_possible}
use Rattle.ps_model.specs.meaning.Compiled.{CompiledRule}
use Rattle.ps_model.specs.meaning.CompiledRules.{rule_by}
use Rattle.ps_compile.specs.PossibleRules.{rule_if}
use Rattle.ps_compile.specs.CompactPrograms.{is_busy, rule_forwards}
use Rattle.ps_origins.specs.declared.origins.RuleOrigin.{RuleOrigin}
use Rattle.ps_origins.specs.Origins.{busy, origin_of}

module _ (names : Names) (rule : SourceRule) where
  -- one rule more, if it isn't void
  one_more : (made : List RuleOrigin) (compiled : CompiledRule) (rest : List CompiledRule) (yes : Bool) →
      (made ++ map (origin_of rule) (cond yes (compiled ∷ []) [])) ++ map (origin_of rule) rest
      ≡ made ++ map (origin_of rule) (cond yes (compiled ∷ rest) rest)
  one_more made compiled rest true = append_assoc made (origin_of rule compiled ∷ []) (map (origin_of rule) rest)
  one_more made compiled rest false = ap (λ front. front ++ map (origin_of rule) rest) (append-nil made)

  -- one reading more, if it is possible
  passed : (made : List RuleOrigin) (reading : Reading) (left : List Reading) (yes : Bool) →
      (made ++ map (origin_of rule) (busy names (cond yes (rule_by names rule reading ∷ []) [])))
      ++ map (origin_of rule) (busy names (map (rule_by names rule) left))
      ≡ made ++ map (origin_of rule) (busy names (map (rule_by names rule) (cond yes (reading ∷ left) left)))
  passed made reading left true =
      one_more made (rule_by names rule reading) (busy names (map (rule_by names rule) left))
      (is_busy names (rule_forwards (rule_by names rule reading)))
  passed made reading left false =
      ap (λ front. front ++ map (origin_of rule) (busy names (map (rule_by names rule) left))) (append-nil made)

  pub read_more : (reading : Reading) (left before : List Reading) (made grown all : List RuleOrigin) →
      before ≡ reading ∷ left → grown ≡ made ++ map (origin_of rule) (busy names (rule_if names rule reading)) →
      made ++ map (origin_of rule) (busy names (map (rule_by names rule) (filter (is_possible names rule) before)))
      ≡ all →
      grown ++ map (origin_of rule) (busy names (map (rule_by names rule) (filter (is_possible names rule) left))) ≡ all
  read_more reading left before made grown all e g invariant =
      ap (λ front. front ++ map (origin_of rule) (busy names
      (map (rule_by names rule) (filter (is_possible names rule) left)))) g
      ∙ passed made reading (filter (is_possible names rule) left) (is_possible names rule reading)
      ∙ ap (λ (readings : List Reading). made ++ map (origin_of rule) (busy names
      (map (rule_by names rule) (filter (is_possible names rule) readings)))) (sym e)
      ∙ invariant
