-- A phase without a fault leaves it to those below it to tell theirs; else it tells its first fault.
use Rattle.std.proofs.Common.{◌≡◌, ◌∙◌, ◌+◌, ◌<◌, ℕ, suc, List, [], ◌∷◌, length, drop, get_or, Option, Some, None, refl}
use Rattle.std.proofs.Common.{sym, ap, arith}
use Rattle.std.proofs.Math.Seq.{drop-cons}
use Rattle.ps_model.specs.declared.texts.Section.TheVariants.{Rules}
use Rattle.ps_model.specs.declared.faults.Fault.{Fault}
use Rattle.ps_model.specs.text.Faults.{first_fault}
use Rattle.ps_model.specs.text.TextFaults.{text_fault}
use Rattle.ps_model.specs.text.Lines.{Line, lines_of}
use Rattle.ps_model.specs.text.Sections.{section_lines, heading_faults}
use Rattle.ps_model.specs.names.Names.{Names}
use Rattle.ps_model.specs.rules.RuleFaults.{rule_faults}
use Rattle.ps_model.specs.rules.SourceRules.{SourceRule}
use Rattle.ps_model.specs.rules.ReadingFaults.{too_many_readings, impossible_rules}
use Rattle.ps_game.specs.ToldFaults.{first_or, told_readings, readings_below, told_below_names, names_of_lines}
use Rattle.ps_game.specs.ToldFaults.{faults_of_names, told_of_lines, told_of_text, told_with, told_once}
use Rattle.ps_laws.proofs.common.FirstFaults.{none-first}

same_some : (x fault : Fault) → Some x ≡ Some fault → x ≡ fault
same_some x fault e = cc

-- the first fault alone
pub one_alone : (faults others told : List Fault) (fault : Fault) → first_fault faults ≡ Some fault →
    told ≡ fault ∷ [] → told ≡ first_or faults others
one_alone [] others told fault first e = absurd (let h = first in cc)
one_alone (x ∷ faults) others told fault first e =
    e ∙ ap (λ (f : Fault). f ∷ []) (sym (same_some x fault first))

none-or : (faults others : List Fault) → faults ≡ [] → first_or faults others ≡ others
none-or faults others none = ap (λ (fs : List Fault). first_or fs others) none

-- readings ------------------------------------------------------------------------------------------------------------

pub few_readings : (names : Names) (rules : List SourceRule) (told : List Fault) →
    None ≡ first_fault (too_many_readings names 0 rules) → told ≡ impossible_rules names rules →
    told ≡ told_readings names rules
few_readings names rules told none e =
    e ∙ sym (none-or (too_many_readings names 0 rules) (impossible_rules names rules)
    (none-first (too_many_readings names 0 rules) (sym none)))

pub rules_fine : (faults told : List Fault) (names : Names) (rules : List SourceRule) → faults ≡ [] →
    told ≡ told_readings names rules → told ≡ readings_below faults names rules
rules_fine faults told names rules none e =
    e ∙ sym (ap (λ (fs : List Fault). readings_below fs names rules) none)

pub rules_faulty : (faults : List Fault) (fault : Fault) (names : Names) (rules : List SourceRule) →
    first_fault faults ≡ Some fault → [] ≡ readings_below faults names rules
rules_faulty [] fault names rules first = absurd (let h = first in cc)
rules_faulty (x ∷ faults) fault names rules first = refl

-- phases --------------------------------------------------------------------------------------------------------------

pub names_fine : (lines : List Line) (names : Names) (told : List Fault) → names ≡ names_of_lines lines →
    faults_of_names lines ≡ [] → told ≡ told_below_names names lines →
    told ≡ first_or (faults_of_names lines) (told_below_names (names_of_lines lines) lines)
names_fine lines names told same none e =
    e ∙ ap (λ (ns : Names). told_below_names ns lines) same
    ∙ sym (none-or (faults_of_names lines) (told_below_names (names_of_lines lines) lines) none)

pub headings_fine : (lines : List Line) (told : List Fault) → heading_faults lines ≡ [] →
    told ≡ first_or (faults_of_names lines) (told_below_names (names_of_lines lines) lines) →
    told ≡ told_of_lines lines
headings_fine lines told none e =
    e ∙ sym (none-or (heading_faults lines)
    (first_or (faults_of_names lines) (told_below_names (names_of_lines lines) lines)) none)

-- the same of a text by its fault as bytes, if it has one
abbrev text_by : List ℕ → Option Fault → List Fault
text_by text fault = elim fault [ Some only ↦ only ∷ [] | None ↦ told_of_lines (lines_of text) ]

pub text_fine : (text : List ℕ) (told : List Fault) → text_fault text ≡ None → told ≡ told_of_lines (lines_of text) →
    told ≡ told_of_text text
text_fine text told none e = e ∙ sym (ap (text_by text) none)

pub text_faulty : (text : List ℕ) (told : List Fault) (fault : Fault) → text_fault text ≡ Some fault →
    told ≡ fault ∷ [] → told ≡ told_of_text text
text_faulty text told fault some e = e ∙ sym (ap (text_by text) some)

-- each line once ------------------------------------------------------------------------------------------------------

-- a fault more of those that are passed by
pub once_more : (most : ℕ) (told next : List Fault) (faults : List Fault) (i : ℕ) → i < length faults → (d : Fault) →
    next ≡ told_with most told (get_or faults i d) →
    told_once most next (drop (i + 1) faults) ≡ told_once most told (drop i faults)
once_more most told next faults i less d e =
    let here : drop i faults ≡ get_or faults i d ∷ drop (suc i) faults = drop-cons faults i d less in
    let further : i + 1 ≡ suc i = omega arith in
    ap (λ (k : ℕ). told_once most next (drop k faults)) further
    ∙ ap (λ (ts : List Fault). told_once most ts (drop (suc i) faults)) e
    ∙ sym (ap (told_once most told) here)
