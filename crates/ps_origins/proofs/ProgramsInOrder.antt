-- The rules of a program in their order: the walk through groups and loops changes no order.
use Rattle.std.proofs.Common.{◌≡◌, ◌∙◌, Bool, true, false, cond, Option, Some, None, List, [], ◌∷◌, ◌++◌, length, map}
use Rattle.std.proofs.Common.{refl, sym, ap, ap₂, append_assoc}
use Rattle.std.specs.Prelude.{filter}
use Rattle.std.specs.List.{cons_option, filter_map, flat_map, onto_first, slice_split}
use Rattle.std.proofs.lemmas.Grind.{flat_map-append}
use Rattle.std.proofs.lemmas.List.{append-nil, length-map, map-append}
use Rattle.std.proofs.lemmas.List.Elements.{filter-append, filter_map-append}
use Rattle.std.proofs.lemmas.List.Splits.{slice_split-cons_no, slice_split-cons_yes}
use Rattle.std.proofs.lemmas.Simd.{map-map}
use Rattle.ps_model.specs.declared.rules.Part.{Part}
use Rattle.ps_model.specs.names.Names.{Names}
use Rattle.ps_model.specs.rules.SourceRules.{SourceRule, RuleLine, Rule, LoopStart, LoopEnd}
use Rattle.ps_model.specs.meaning.Compiled.{CompiledRule}
use Rattle.ps_model.specs.meaning.CompiledRules.{compiled_rules}
use Rattle.ps_model.specs.board.RuleSections.{SectionOf, Group, Loop, section_by}
use Rattle.ps_model.specs.board.RulePrograms.{is_in_part, rule_in, is_start, is_end, is_joined, before_groups}
use Rattle.ps_model.specs.board.RulePrograms.{groups_of, groups_in, outside_loops, inside_loop, of_pieces, behind_start}
use Rattle.ps_model.specs.board.RulePrograms.{sections_of, program_by}
use Rattle.ps_laws.proofs.common.Stages.{map-flat_map, same_flat_map}
use Rattle.ps_compile.specs.CompactPrograms.{compact, compact_program, compact_rules, is_busy, rule_forwards}
use Rattle.ps_origins.specs.declared.origins.RuleOrigin.{RuleOrigin}
use Rattle.ps_origins.specs.Origins.{busy, origin_of, origins_of, rule_origins, rules_in}
use Rattle.ps_origins.specs.Besides.{Sourced, StandBeside, origin_in, rules_of, rules_of_groups, rules_of_section}
use Rattle.ps_origins.specs.Besides.{sourced, sourced_of, turned_rule}

-- programs made rule by rule ------------------------------------------------------------------------------------------

module _ {A B : Type 0} (made : A → List B) where
  groups_made : (groups : List (List A)) →
      rules_of_groups (map (flat_map made) groups) ≡ flat_map made (rules_of_groups groups)
  groups_made [] = refl
  groups_made (rules ∷ groups) =
      ap (λ (rest : List B). flat_map made rules ++ rest) (groups_made groups)
      ∙ sym (flat_map-append made rules (rules_of_groups groups))

  section_made : (section : SectionOf A) →
      rules_of_section (section_by (flat_map made) section) ≡ flat_map made (rules_of_section section)
  section_made (Group rules) = refl
  section_made (Loop body) = groups_made body

  sections_made : (sections : List (SectionOf A)) →
      rules_of (map (section_by (flat_map made)) sections) ≡ flat_map made (rules_of sections)
  sections_made [] = refl
  sections_made (section ∷ sections) =
      ap₂ (λ (first rest : List B). first ++ rest) (section_made section) (sections_made sections)
      ∙ sym (flat_map-append made (rules_of_section section) (rules_of sections))

-- groups --------------------------------------------------------------------------------------------------------------

before_kept : (rule : SourceRule) (first : List SourceRule) (others : List (List SourceRule)) (joined : Bool) →
    rules_of_groups (cond joined ((rule ∷ first) ∷ others) ((rule ∷ []) ∷ first ∷ others))
    ≡ rule ∷ rules_of_groups (first ∷ others)
before_kept rule first others true = refl
before_kept rule first others false = refl

before_groups_kept : (rule : SourceRule) (groups : List (List SourceRule)) →
    rules_of_groups (before_groups rule groups) ≡ rule ∷ rules_of_groups groups
before_groups_kept rule [] = refl
before_groups_kept rule (first ∷ others) = before_kept rule first others (is_joined first)

groups_kept : (rules : List SourceRule) → rules_of_groups (groups_of rules) ≡ rules
groups_kept [] = refl
groups_kept (rule ∷ rules) =
    before_groups_kept rule (groups_of rules) ∙ ap (λ (rest : List SourceRule). rule ∷ rest) (groups_kept rules)

each_a_section : (groups : List (List SourceRule)) → rules_of (map Group groups) ≡ rules_of_groups groups
each_a_section [] = refl
each_a_section (rules ∷ groups) = ap (λ (rest : List SourceRule). rules ++ rest) (each_a_section groups)

-- pieces of lines -----------------------------------------------------------------------------------------------------

module _ (part : Part) where
  outside_kept : (lines : List RuleLine) → rules_of (outside_loops part lines) ≡ rules_in part lines
  outside_kept lines = each_a_section (groups_in part lines) ∙ groups_kept (rules_in part lines)

  inside_kept : (lines : List RuleLine) → rules_of (inside_loop part lines) ≡ rules_in part lines
  inside_kept lines = append-nil (rules_of_groups (groups_in part lines)) ∙ groups_kept (rules_in part lines)

  rules_in-append : (front behind : List RuleLine) → rules_in part (front ++ behind)
      ≡ rules_in part front ++ rules_in part behind
  rules_in-append front behind =
      ap (filter (is_in_part part)) (filter_map-append rule_in front behind)
      ∙ filter-append (is_in_part part) (filter_map rule_in front) (filter_map rule_in behind)

  onto_kept : (line : RuleLine) (pieces : List (List RuleLine)) →
      flat_map (rules_in part) (onto_first line pieces)
      ≡ rules_in part (line ∷ []) ++ flat_map (rules_in part) pieces
  onto_kept line [] = refl
  onto_kept line (piece ∷ pieces) =
      ap (λ (front : List SourceRule). front ++ flat_map (rules_in part) pieces) (rules_in-append (line ∷ []) piece)
      ∙ append_assoc (rules_in part (line ∷ [])) (rules_in part piece) (flat_map (rules_in part) pieces)

  -- a cut takes no rule away, where no rule is cut at
  module _ (cuts : RuleLine → Bool) (no_rule : (line : RuleLine) → cuts line ≡ true → rule_in line ≡ None) where
    cut_at : (line : RuleLine) (lines : List RuleLine) (yes : Bool) → cuts line ≡ yes →
        flat_map (rules_in part) (slice_split cuts lines) ≡ rules_in part lines →
        flat_map (rules_in part) (slice_split cuts (line ∷ lines)) ≡ rules_in part (line ∷ lines)
    cut_at line lines true e rest =
        ap (flat_map (rules_in part)) (slice_split-cons_yes cuts line lines e)
        ∙ rest
        ∙ ap (λ (rule : Option SourceRule). filter (is_in_part part) (cons_option rule (filter_map rule_in lines)))
        (sym (no_rule line e))
    cut_at line lines false e rest =
        ap (flat_map (rules_in part)) (slice_split-cons_no cuts line lines e)
        ∙ onto_kept line (slice_split cuts lines)
        ∙ ap (λ (behind : List SourceRule). rules_in part (line ∷ []) ++ behind) rest
        ∙ sym (rules_in-append (line ∷ []) lines)

    cut_kept : (lines : List RuleLine) → flat_map (rules_in part) (slice_split cuts lines) ≡ rules_in part lines
    cut_kept [] = refl
    cut_kept (line ∷ lines) = cut_at line lines (cuts line) refl (cut_kept lines)

  others_kept : (made : List RuleLine → List (SectionOf SourceRule)) →
      ((lines : List RuleLine) → rules_of (made lines) ≡ rules_in part lines) → (pieces : List (List RuleLine)) →
      rules_of (flat_map made pieces) ≡ flat_map (rules_in part) pieces
  others_kept made kept [] = refl
  others_kept made kept (piece ∷ pieces) =
      flat_map-append rules_of_section (made piece) (flat_map made pieces)
      ∙ ap₂ (λ (first rest : List SourceRule). first ++ rest) (kept piece) (others_kept made kept pieces)

  pieces_kept : (first other : List RuleLine → List (SectionOf SourceRule)) →
      ((lines : List RuleLine) → rules_of (first lines) ≡ rules_in part lines) →
      ((lines : List RuleLine) → rules_of (other lines) ≡ rules_in part lines) → (pieces : List (List RuleLine)) →
      rules_of (of_pieces first other pieces) ≡ flat_map (rules_in part) pieces
  pieces_kept first other first_kept other_kept [] = refl
  pieces_kept first other first_kept other_kept (piece ∷ pieces) =
      flat_map-append rules_of_section (first piece) (flat_map other pieces)
      ∙ ap₂ (λ (front rest : List SourceRule). front ++ rest) (first_kept piece) (others_kept other other_kept pieces)

-- lines at which loops start and end are no rules
no_start : (line : RuleLine) → is_start line ≡ true → rule_in line ≡ None
no_start (Rule rule) e = cc
no_start LoopStart e = refl
no_start LoopEnd e = refl

no_end : (line : RuleLine) → is_end line ≡ true → rule_in line ≡ None
no_end (Rule rule) e = cc
no_end LoopStart e = refl
no_end LoopEnd e = refl

behind_kept : (part : Part) (lines : List RuleLine) → rules_of (behind_start part lines) ≡ rules_in part lines
behind_kept part lines =
    pieces_kept part (inside_loop part) (outside_loops part) (inside_kept part) (outside_kept part)
    (slice_split is_end lines)
    ∙ cut_kept part is_end no_end lines

lines_kept : (part : Part) (lines : List RuleLine) → rules_of (sections_of part lines) ≡ rules_in part lines
lines_kept part lines =
    pieces_kept part (outside_loops part) (behind_start part) (outside_kept part) (behind_kept part)
    (slice_split is_start lines)
    ∙ cut_kept part is_start no_start lines

-- a program has what each of its rules makes, in their order
program_kept : {A : Type 0} (made : SourceRule → List A) (part : Part) (lines : List RuleLine) →
    rules_of (program_by made part lines) ≡ flat_map made (rules_in part lines)
program_kept made part lines = sections_made made (sections_of part lines) ∙ ap (flat_map made) (lines_kept part lines)

-- origins -------------------------------------------------------------------------------------------------------------

-- rules that aren't void, turned before they are sifted or after
sift_one : (names : Names) (rule : CompiledRule) (rules : List CompiledRule) (yes : Bool) →
    compact names rules ≡ map rule_forwards (busy names rules) →
    cond yes (rule_forwards rule ∷ compact names rules) (compact names rules)
    ≡ map rule_forwards (cond yes (rule ∷ busy names rules) (busy names rules))
sift_one names rule rules true rest = ap (λ (all : List CompiledRule). rule_forwards rule ∷ all) rest
sift_one names rule rules false rest = rest

sifted : (names : Names) (rules : List CompiledRule) → compact names rules ≡ map rule_forwards (busy names rules)
sifted names [] = refl
sifted names (rule ∷ rules) =
    sift_one names rule rules (is_busy names (rule_forwards rule)) (sifted names rules)

module _ (names : Names) where
  sourced_rules : (rule : SourceRule) → compact_rules names rule ≡ map turned_rule (sourced_of names rule)
  sourced_rules rule =
      sifted names (compiled_rules names rule)
      ∙ sym (map-map turned_rule (λ compiled. let s : Sourced = record { source = rule; compiled = compiled } in s)
      (busy names (compiled_rules names rule)))

  sourced_origins : (rule : SourceRule) → origins_of names rule ≡ map origin_in (sourced_of names rule)
  sourced_origins rule =
      sym (map-map origin_in (λ compiled. let s : Sourced = record { source = rule; compiled = compiled } in s)
      (busy names (compiled_rules names rule)))

  pub stand_beside : (part : Part) (lines : List RuleLine) → StandBeside names part lines
  stand_beside part lines =
      let each : List Sourced = sourced names part lines in
      let rules : rules_of (compact_program names part lines) ≡ map turned_rule each =
      program_kept (compact_rules names) part lines
      ∙ same_flat_map (compact_rules names) (λ rule. map turned_rule (sourced_of names rule)) sourced_rules
      (rules_in part lines)
      ∙ sym (map-flat_map turned_rule (sourced_of names) (rules_in part lines)) in
      let origins : rule_origins names part lines ≡ map origin_in each =
      same_flat_map (origins_of names) (λ rule. map origin_in (sourced_of names rule)) sourced_origins
      (rules_in part lines)
      ∙ sym (map-flat_map origin_in (sourced_of names) (rules_in part lines)) in
      record {
        rules = rules;
        origins = origins;
        many = ap length origins ∙ length-map each origin_in ∙ sym (length-map each turned_rule) ∙ sym (ap length rules);
      }
