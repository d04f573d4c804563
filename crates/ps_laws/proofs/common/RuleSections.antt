-- The walk through the lines of RULES, for whatever programs are made of them. Where each rule of the lines has
-- something, the groups that are made of such rules are all that a program has; and where the groups that two ways make
-- of such rules are related, both programs are, section by section.
use Rattle.std.proofs.Common.{List, [], ◌∷◌, map, filter, flat_map, filter_map}
use Rattle.std.specs.Prelude.{All}
use Rattle.std.specs.List.{AllZip, slice_split}
use Rattle.std.proofs.lemmas.List.Elements.{All-nil, All-cons, All-head, All-tail, All-append, All-filter, All-weaker}
use Rattle.ps_model.specs.declared.rules.Part.{Part}
use Rattle.ps_model.specs.names.Names.{Names}
use Rattle.ps_model.specs.rules.SourceRules.{SourceRule, RuleLine, Rule, LoopStart, LoopEnd}
use Rattle.ps_model.specs.meaning.GameRules.{IsRuleOf, IsLineOf}
use Rattle.ps_model.specs.board.RuleSections.{SectionOf, Group, Loop, section_by}
use Rattle.ps_model.specs.board.RulePrograms.{is_in_part, rule_in, is_start, is_end, is_joined, before_groups}
use Rattle.ps_model.specs.board.RulePrograms.{groups_of, groups_in, outside_loops, inside_loop, of_pieces, behind_start}
use Rattle.ps_model.specs.board.RulePrograms.{sections_of, program_by}
use Rattle.ps_laws.specs.EachGroup.{EachGroup, GroupByGroup, HasSuchRule}
use Rattle.ps_laws.specs.WholeRows.{HasWholeRows, IsWholeLine}
use Rattle.ps_laws.proofs.common.Everywhere.{either_one, All-mapped, All-flat_map, All-filter_map, All-slice_split}
use Rattle.ps_laws.proofs.common.Zipped.{AllZip-made}

-- lines of a game -----------------------------------------------------------------------------------------------------

rule-game : (names : Names) (line : RuleLine) → IsLineOf names line → HasSuchRule (IsRuleOf names) line
rule-game names (Rule rule) h = h
rule-game names LoopStart h = tt
rule-game names LoopEnd h = tt

-- each rule of its lines is of the game
pub rules-game : (names : Names) (lines : List RuleLine) → All (IsLineOf names) lines →
    All (HasSuchRule (IsRuleOf names)) lines
rules-game names lines all = All-weaker (IsLineOf names) (HasSuchRule (IsRuleOf names)) (rule-game names) lines all

-- a rule of the game whose rows are whole
abbrev pub IsWholeRuleOf : Names → SourceRule → Type 0
IsWholeRuleOf names rule = IsRuleOf names rule × HasWholeRows rule

whole_rule-game : (names : Names) (line : RuleLine) → IsLineOf names line × IsWholeLine line →
    HasSuchRule (IsWholeRuleOf names) line
whole_rule-game names (Rule rule) h = h
whole_rule-game names LoopStart h = tt
whole_rule-game names LoopEnd h = tt

-- and so is each whose lines are whole
pub whole_rules-game : (names : Names) (lines : List RuleLine) → All (IsLineOf names) lines → All IsWholeLine lines →
    All (HasSuchRule (IsWholeRuleOf names)) lines
whole_rules-game names lines of_game whole =
    All-weaker (λ line. IsLineOf names line × IsWholeLine line) (HasSuchRule (IsWholeRuleOf names))
    (whole_rule-game names) lines (λ k d within. (of_game k d within, whole k d within))

-- sections of source rules --------------------------------------------------------------------------------------------

-- groups have the rules that they are made of
All-before_groups : (P : SourceRule → Type 0) (rule : SourceRule) (groups : List (List SourceRule)) → P rule →
    All (All P) groups → All (All P) (before_groups rule groups)
All-before_groups P rule [] p all = All-cons (All P) (rule ∷ []) [] (All-cons P rule [] p (All-nil P)) (All-nil (All P))
All-before_groups P rule (first ∷ others) p all =
    either_one (All (All P)) (is_joined first) ((rule ∷ first) ∷ others) ((rule ∷ []) ∷ first ∷ others)
    (All-cons (All P) (rule ∷ first) others (All-cons P rule first p (All-head (All P) first others all))
    (All-tail (All P) first others all))
    (All-cons (All P) (rule ∷ []) (first ∷ others) (All-cons P rule [] p (All-nil P)) all)

All-groups_of : (P : SourceRule → Type 0) (rules : List SourceRule) → All P rules → All (All P) (groups_of rules)
All-groups_of P [] all = All-nil (All P)
All-groups_of P (rule ∷ rules) all = All-before_groups P rule (groups_of rules) (All-head P rule rules all)
    (All-groups_of P rules (All-tail P rule rules all))

-- the groups of lines
All-groups_in : (P : SourceRule → Type 0) (part : Part) (lines : List RuleLine) → All (HasSuchRule P) lines →
    All (All P) (groups_in part lines)
All-groups_in P part lines all =
    All-groups_of P (filter (is_in_part part) (filter_map rule_in lines))
    (All-filter (is_in_part part) P (filter_map rule_in lines)
    (All-filter_map P (HasSuchRule P) rule_in lines (λ line h. h) all))

-- what comes of pieces
All-of_pieces : {A B : Type 0} (P : B → Type 0) (Q : A → Type 0) (first other : A → List B) →
    ((piece : A) → Q piece → All P (first piece)) → ((piece : A) → Q piece → All P (other piece)) → (pieces : List A) →
    All Q pieces → All P (of_pieces first other pieces)
All-of_pieces P Q first other h k [] all = All-nil P
All-of_pieces P Q first other h k (piece ∷ pieces) all =
    All-append P (first piece) (flat_map other pieces) (h piece (All-head Q piece pieces all))
    (All-flat_map P Q other pieces k (All-tail Q piece pieces all))

-- the sections of lines
module _ (P : SourceRule → Type 0) (part : Part) where
  outside : (lines : List RuleLine) → All (HasSuchRule P) lines → All (EachGroup (All P)) (outside_loops part lines)
  outside lines all = All-mapped (EachGroup (All P)) (All P) Group (groups_in part lines) (λ rules h.
      h) (All-groups_in P part lines all)

  inside : (lines : List RuleLine) → All (HasSuchRule P) lines → All (EachGroup (All P)) (inside_loop part lines)
  inside lines all = All-cons (EachGroup (All P)) (Loop (groups_in part lines)) [] (All-groups_in P part lines all)
      (All-nil (EachGroup (All P)))

  behind : (lines : List RuleLine) → All (HasSuchRule P) lines → All (EachGroup (All P)) (behind_start part lines)
  behind lines all = All-of_pieces (EachGroup (All P)) (All (HasSuchRule P)) (inside_loop part) (outside_loops part)
      inside outside (slice_split is_end lines) (All-slice_split (HasSuchRule P) is_end lines all)

  each_section : (lines : List RuleLine) → All (HasSuchRule P) lines → All (EachGroup (All P)) (sections_of part lines)
  each_section lines all = All-of_pieces (EachGroup (All P)) (All (HasSuchRule P)) (outside_loops part)
      (behind_start part) outside behind (slice_split is_start lines)
      (All-slice_split (HasSuchRule P) is_start lines all)

-- programs ------------------------------------------------------------------------------------------------------------

-- a section whose groups are made of such groups
made-each : {A B : Type 0} (P : List B → Type 0) (Q : List A → Type 0) (made : List A → List B) →
    ((rules : List A) → Q rules → P (made rules)) → (section : SectionOf A) → EachGroup Q section →
    EachGroup P (section_by made section)
made-each P Q made h (Group rules) all = h rules all
made-each P Q made h (Loop body) all = All-mapped P Q made body h all

-- two sections that are made of one that has such groups, the first of them in two steps
made-related : {A B C D : Type 0} (Q : List A → Type 0) (R : List C → List D → Type 0) (f : List A →
    List B) (m : List B → List C) (g : List A → List D) → ((rules : List A) → Q rules → R (m (f rules)) (g rules)) →
    (section : SectionOf A) → EachGroup Q section →
    GroupByGroup R (section_by m (section_by f section)) (section_by g section)
made-related Q R f m g h (Group rules) all = h rules all
made-related Q R f m g h (Loop body) all = AllZip-made Q R f m g h body all

-- what each rule of the lines makes, the groups of the program have
pub program-each : {A : Type 0} (P : SourceRule → Type 0) (Q : A → Type 0) (made : SourceRule → List A) →
    ((rule : SourceRule) → P rule → All Q (made rule)) →
    (part : Part) (lines : List RuleLine) → All (HasSuchRule P) lines →
    All (EachGroup (All Q)) (program_by made part lines)
program-each P Q made h part lines all =
    All-mapped (EachGroup (All Q)) (EachGroup (All P)) (section_by (flat_map made)) (sections_of part lines)
    (made-each (All Q) (All P) (flat_map made) (λ rules. All-flat_map Q P made rules h)) (each_section P part lines all)

-- where the groups are related that two ways make of such rules, so are both programs
pub program-related : {A B C : Type 0} (P : SourceRule → Type 0) (R : List B → List C → Type 0) (first : SourceRule →
    List A) (meant : List A → List B) (second : SourceRule → List C) →
    ((rules : List SourceRule) → All P rules → R (meant (flat_map first rules)) (flat_map second rules)) →
    (part : Part) (lines : List RuleLine) → All (HasSuchRule P) lines →
    AllZip (GroupByGroup R) (map (section_by meant) (program_by first part lines)) (program_by second part lines)
program-related P R first meant second h part lines all =
    AllZip-made (EachGroup (All P)) (GroupByGroup R) (section_by (flat_map first)) (section_by meant)
    (section_by (flat_map second))
    (made-related (All P) R (flat_map first) meant (flat_map second) h) (sections_of part lines)
    (each_section P part lines all)
