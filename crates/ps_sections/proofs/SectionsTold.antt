-- What the boundaries of a text's sections tell.
use Rattle.std.proofs.Common.{◌≡◌, ℕ, suc, ◌+◌, ◌-◌, ◌<◌, ◌≤◌, Bool, true, false, ◌&&◌, List, [], ◌++◌, length, Some}
use Rattle.std.proofs.Common.{None, refl, ap, ◌∙◌, arith}
use Rattle.std.specs.Prelude.{nat_lt, not, if◌then◌else◌}
use Rattle.std.specs.List.{flat_map}
use Rattle.std.proofs.lemmas.Bool.{ltb-true}
use Rattle.ps_model.specs.declared.texts.Section.{Section}
use Rattle.ps_model.specs.declared.texts.Section.TheVariants.{Prelude, Objects, Layers, Levels}
use Rattle.ps_model.specs.declared.faults.Fault.{Fault}
use Rattle.ps_model.specs.declared.faults.FaultKind.TheVariants.{NoSection}
use Rattle.ps_model.specs.text.Faults.{when, first_fault}
use Rattle.ps_model.specs.text.Lines.{Line, lines_of}
use Rattle.ps_model.specs.text.Sections.{rank, header_lines, header_number, has_section, is_without_section}
use Rattle.ps_model.specs.text.Sections.{heading_faults, heading_faults_of}
use Rattle.ps_sections.specs.Headings.{headings_told}
use Rattle.ps_sections.specs.SectionPlaces.{boundary, IsSection}
use Rattle.ps_laws.proofs.common.FirstFaults.{first-front, none-first}
use Rattle.ps_sections.proofs.HeadingsTold.{headings-told}
use Rattle.ps_sections.proofs.SectionLines.{prelude_told, section_told, section_has, header_told}

-- the first fault of headers and prelude that a line has
pub line_refused : (text : List ℕ) (fault : Fault) → headings_told 0 (lines_of text) ≡ Some fault →
    first_fault (heading_faults (lines_of text)) ≡ Some fault
line_refused text fault e = first-front (flat_map (heading_faults_of (header_lines (lines_of text))) (lines_of text)) _
    fault (headings-told text ∙ e)

-- without one a section may be missing
faults_left : (text : List ℕ) → headings_told 0 (lines_of text) ≡ None →
    heading_faults (lines_of text) ≡ when (is_without_section (header_lines (lines_of text))) NoSection
    (length (lines_of text))
faults_left text e =
    let lines : List Line = lines_of text in
    let none : flat_map (heading_faults_of (header_lines lines)) lines ≡ [] =
    none-first (flat_map (heading_faults_of (header_lines lines)) lines) (headings-told text ∙ e) in
    ap (λ (faults : List Fault). faults ++ when (is_without_section (header_lines lines)) NoSection (length lines)) none

-- the three sections that no game lacks
pub record AreEnds (text : List ℕ) (objects legend layers rules levels end : ℕ) : Type 0 where
  pub objects_begin : objects ≡ boundary text (rank Objects)
  pub objects_end : legend ≡ boundary text (suc (rank Objects))
  pub layers_begin : layers ≡ boundary text (rank Layers)
  pub layers_end : rules ≡ boundary text (suc (rank Layers))
  pub levels_begin : levels ≡ boundary text (rank Levels)
  pub levels_end : end ≡ boundary text (suc (rank Levels))

missing_is : (text : List ℕ) (objects legend layers rules levels end : ℕ) → headings_told 0 (lines_of text) ≡ None →
    AreEnds text objects legend layers rules levels end →
    is_without_section (header_lines (lines_of text)) ≡ not
    (nat_lt objects legend && (nat_lt layers rules && (nat_lt levels end && true)))
missing_is text objects legend layers rules levels end o e =
    let headers : List Line = header_lines (lines_of text) in
    ap (λ (b : Bool). not (b && (has_section headers Layers && (has_section headers Levels && true))))
    (section_has text Objects objects legend (omega arith) o e.objects_begin e.objects_end)
    ∙ ap (λ (b : Bool). not (nat_lt objects legend && (b && (has_section headers Levels && true))))
    (section_has text Layers layers rules (omega arith) o e.layers_begin e.layers_end)
    ∙ ap (λ (b : Bool). not (nat_lt objects legend && (nat_lt layers rules && (b && true))))
    (section_has text Levels levels end (omega arith) o e.levels_begin e.levels_end)

pub section_refused : (text : List ℕ) (objects legend layers rules levels end : ℕ) →
    headings_told 0 (lines_of text) ≡ None → AreEnds text objects legend layers rules levels end →
    not (nat_lt objects legend && (nat_lt layers rules && (nat_lt levels end && true))) ≡ true →
    first_fault (heading_faults (lines_of text)) ≡ Some (record { kind = NoSection; line = length (lines_of text) })
section_refused text objects legend layers rules levels end o e h =
    ap first_fault (faults_left text o ∙ ap (λ (b : Bool).
    when b NoSection (length (lines_of text))) (missing_is text objects legend layers rules levels end o e ∙ h))

pub headings_fine : (text : List ℕ) (objects legend layers rules levels end : ℕ) →
    headings_told 0 (lines_of text) ≡ None → AreEnds text objects legend layers rules levels end →
    not (nat_lt objects legend && (nat_lt layers rules && (nat_lt levels end && true))) ≡ false →
    heading_faults (lines_of text) ≡ []
headings_fine text objects legend layers rules levels end o e h =
    faults_left text o ∙ ap (λ (b : Bool). when b NoSection (length (lines_of text)))
    (missing_is text objects legend layers rules levels end o e ∙ h)

pub first_there : (a b c : Bool) → not (a && (b && (c && true))) ≡ false → a ≡ true
first_there true b c h = refl
first_there false b c h = absurd (let e = h in cc)

pub last_there : (a b c : Bool) → not (a && (b && (c && true))) ≡ false → c ≡ true
last_there a b true h = refl
last_there true true false h = absurd (let e = h in cc)
last_there true false false h = absurd (let e = h in cc)
last_there false b false h = absurd (let e = h in cc)

-- the sections --------------------------------------------------------------------------------------------------------

pub is_prelude : (text : List ℕ) (end : ℕ) → headings_told 0 (lines_of text) ≡ None → end ≡ boundary text 1 →
    end ≤ length (lines_of text) + 1 → IsSection text Prelude 1 end
is_prelude text end o e within = record {
  stretch = (omega arith, (omega (arith, e), within));
  same = prelude_told text end o e;
}

pub is_section : (text : List ℕ) (section : Section) (header end start stop : ℕ) → 0 < rank section →
    headings_told 0 (lines_of text) ≡ None → header ≡ boundary text (rank section) →
    end ≡ boundary text (suc (rank section)) →
    start ≡ (if nat_lt header end then header + 1 else header) → stop ≡ end → start ≤ end → header ≤ start →
    end ≤ length (lines_of text) + 1 → IsSection text section start stop
is_section text section header end start stop low o h e s t ordered behind within = record {
  stretch = (omega (arith, h), (omega arith, omega arith));
  same = rw t (section_told text section header end start low o h e s);
}

start_is : (header end start : ℕ) (some : Bool) → some ≡ true → start ≡ (if some then header + 1 else header) →
    header ≡ start - 1
start_is header end start true h s = omega (arith, s)
start_is header end start false h s = absurd (let e = h in cc)

-- the header stands right above the lines
pub is_header_of : (text : List ℕ) (section : Section) (header end start : ℕ) → 0 < rank section →
    headings_told 0 (lines_of text) ≡ None → header ≡ boundary text (rank section) →
    end ≡ boundary text (suc (rank section)) →
    start ≡ (if nat_lt header end then header + 1 else header) → nat_lt header end ≡ true →
    header_number (lines_of text) section ≡ start - 1
is_header_of text section header end start low o h e s some =
    header_told text section header end low o h e (ltb-true header end some)
    ∙ start_is header end start (nat_lt header end) some s
