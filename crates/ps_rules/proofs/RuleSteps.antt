-- The first fault of a rule lies in the first of its parts that has one.
use Rattle.std.proofs.Common.{◌≡◌, ℕ, true, false, List, [], ◌∷◌, ◌++◌, Option, Some, None, refl, ap, sym, ◌∙◌}
use Rattle.std.proofs.Common.{append_assoc}
use Rattle.std.specs.Prelude.{option_map, is_some}
use Rattle.ps_model.specs.declared.faults.Fault.{Fault}
use Rattle.ps_model.specs.declared.faults.FaultKind.{FaultKind}
use Rattle.ps_model.specs.text.Faults.{first_fault}
use Rattle.ps_model.specs.rules.RuleShape.{RuleShape}
use Rattle.ps_model.specs.rules.RuleFaults.{Above, faults_of_rule}
use Rattle.ps_model.specs.rules.SourceRules.{SourceRule}
use Rattle.ps_laws.proofs.common.FirstFaults.{first-front, none-first}
use Rattle.ps_rules.specs.FaultsShown.{fault_at, shape_faults, name_faults, last_faults}

pub first-none : (faults others : List Fault) → first_fault faults ≡ None →
    first_fault (faults ++ others) ≡ first_fault others
first-none [] others e = refl
first-none (f ∷ faults) others e = cc

module _ (above : Above) (line : ℕ) (shape : RuleShape) (rule : SourceRule) where
  -- all of them are the three parts
  pub three-parts : faults_of_rule above line shape rule ≡ shape_faults line shape ++
      (name_faults line rule ++ last_faults above line shape rule)
  three-parts = simp append_assoc

  pub in_shape : (fault : Fault) → first_fault (shape_faults line shape) ≡ Some fault →
      first_fault (faults_of_rule above line shape rule) ≡ Some fault
  in_shape fault e = ap first_fault three-parts ∙ first-front (shape_faults line shape) _ fault e

  pub in_names : (fault : Fault) → first_fault (shape_faults line shape) ≡ None →
      first_fault (name_faults line rule) ≡ Some fault
      → first_fault (faults_of_rule above line shape rule) ≡ Some fault
  in_names fault s e = ap first_fault three-parts ∙ first-none (shape_faults line shape) _ s
      ∙ first-front (name_faults line rule) _ fault e

  pub at_last : first_fault (shape_faults line shape) ≡ None → first_fault (name_faults line rule) ≡ None
      → first_fault (faults_of_rule above line shape rule) ≡ first_fault (last_faults above line shape rule)
  at_last s n = ap first_fault three-parts ∙ first-none (shape_faults line shape) _ s
      ∙ first-none (name_faults line rule) _ n

  pub told-in-shape : (in_shape' : Option FaultKind) → is_some in_shape' ≡ true →
      option_map (fault_at line) in_shape' ≡ first_fault (shape_faults line shape)
      → option_map (fault_at line) in_shape' ≡ first_fault (faults_of_rule above line shape rule)
  told-in-shape None some e = cc
  told-in-shape (Some kind) some e = sym (in_shape (fault_at line kind) (sym e))

  pub told-in-names : (in_shape' in_names' : Option FaultKind) → is_some in_shape' ≡ false → is_some in_names' ≡ true
      → option_map (fault_at line) in_shape' ≡ first_fault (shape_faults line shape) →
      option_map (fault_at line) in_names' ≡ first_fault (name_faults line rule)
      → option_map (fault_at line) in_names' ≡ first_fault (faults_of_rule above line shape rule)
  told-in-names (Some kind) names none some s e = cc
  told-in-names None None none some s e = cc
  told-in-names None (Some kind) none some s e = sym (in_names (fault_at line kind) (sym s) (sym e))

  pub told-last : (in_shape' in_names' last : Option FaultKind) → is_some in_shape' ≡ false → is_some in_names' ≡ false
      → option_map (fault_at line) in_shape' ≡ first_fault (shape_faults line shape) →
      option_map (fault_at line) in_names' ≡ first_fault (name_faults line rule)
      → option_map (fault_at line) last ≡ first_fault (last_faults above line shape rule) →
      option_map (fault_at line) last ≡ first_fault (faults_of_rule above line shape rule)
  told-last (Some kind) names last none neither s e l = cc
  told-last None (Some kind) last none neither s e l = cc
  told-last None None last none neither s e l = l ∙ sym (at_last (sym s) (sym e))

pub rule-fine : (above : Above) (line : ℕ) (shape : RuleShape) (rule other : SourceRule) (kind : Option FaultKind) →
    kind ≡ None
    → option_map (fault_at line) kind ≡ first_fault (faults_of_rule above line shape rule) → rule ≡ other →
    faults_of_rule above line shape other ≡ []
rule-fine above line shape rule other (Some kind) none e same = cc
rule-fine above line shape rule other None none e same = ap (faults_of_rule above line shape) (sym same)
    ∙ none-first (faults_of_rule above line shape rule) (sym e)
