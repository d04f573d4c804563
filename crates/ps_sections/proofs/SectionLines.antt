-- The lines of each section, where the headers are in order.
use Rattle.std.proofs.Common.{◌≡◌, ℕ, suc, ◌+◌, ◌-◌, ◌<◌, ◌≤◌, ◌⊎◌, inl, inr, Bool, true, false, cond, ◌&&◌, ◌||◌, List}
use Rattle.std.proofs.Common.{[], ◌∷◌, take, drop, filter, Option, None, Some, refl, sym, ap, ap₂, ◌∙◌, arith}
use Rattle.std.specs.Prelude.{⊤, nat_eq, nat_lt, nat_le, not, find, unwrap_or, option_map, if◌then◌else◌}
use Rattle.std.specs.List.{prefix_len}
use Rattle.std.specs.Option.{option_or}
use Rattle.std.proofs.lemmas.Bool.Decides.{nat_tests}
use Rattle.std.proofs.lemmas.Bool.{eq-eqb, lt-ltb}
use Rattle.std.proofs.Math.Bool.{and-true}
use Rattle.ps_model.specs.declared.texts.Section.{Section}
use Rattle.ps_model.specs.declared.texts.Section.TheVariants.{Prelude}
use Rattle.ps_model.specs.declared.faults.Fault.{Fault}
use Rattle.ps_model.specs.text.Lines.{Line, lines_of}
use Rattle.ps_model.specs.text.LineNumbers.{lines_between}
use Rattle.ps_model.specs.text.Sections.{rank, is_of, is_real_time, is_without_size, section_lines, header_lines}
use Rattle.ps_model.specs.text.Sections.{header_number, has_section}
use Rattle.ps_laws.proofs.common.LinesInOrder.{IsBelow, AreInOrder, in_order}
use Rattle.ps_sections.specs.Headings.{is_late_header, heading_fault, place_below, headings_told}
use Rattle.ps_sections.specs.SectionPlaces.{stands_above, boundary}
use Rattle.ps_sections.proofs.HeadingsTold.{not_late}

-- tests of numbers
apart : (a b : ℕ) → a < b → nat_eq a b ≡ false
apart a b h = grind (arith, nat_tests)

apart_back : (a b : ℕ) → b < a → nat_eq a b ≡ false
apart_back a b h = grind (arith, nat_tests)

not_less : (a b : ℕ) → b ≤ a → nat_lt a b ≡ false
not_less a b h = grind (arith, nat_tests)

three : (a b : ℕ) → (a < b) ⊎ ((a ≡ b) ⊎ (b < a))
three a b = grind arith

-- sections that rise --------------------------------------------------------------------------------------------------

-- a line below one of that section: it stands in it too, or it is the header of a later one
data IsNext (above : Section) (line : Line) : Type 0 where
  Stays : line.is_header ≡ false → line.section ≡ above → IsNext above line
  Begins : line.is_header ≡ true → rank above < rank line.section → IsNext above line

-- lines below one of that section
abbrev AreRising : Section → List Line → Type 0
AreRising above [] = ⊤
AreRising above (line ∷ lines) = IsNext above line × AreRising line.section lines

not_told : (fault other : Option Fault) → option_or fault other ≡ None → (fault ≡ None) × (other ≡ None)
not_told None other e = (refl, e)
not_told (Some fault) other e = absurd (let h = e in cc)

next_by : (above : Section) (line : Line) (heads : Bool) → line.is_header ≡ heads → IsBelow above line →
    heads && nat_le (rank line.section) (rank above) ≡ false → IsNext above line
next_by above line true e b l = let rises : rank above < rank line.section = grind (arith, nat_tests) in Begins e rises
next_by above line false e b l = Stays e (b.plain e)

place_by : (above : Section) (line : Line) (heads : Bool) → line.is_header ≡ heads → IsBelow above line →
    (if heads then rank line.section else rank above) ≡ rank line.section
place_by above line true e b = refl
place_by above line false e b = ap rank (sym (b.plain e))

rising_from : (number : ℕ) (above : Section) (lines : List Line) → AreInOrder number above lines →
    headings_told (rank above) lines ≡ None → AreRising above lines
rising_from number above [] o e = tt
rising_from number above (line ∷ lines) o e =
    let parts = not_told (heading_fault (rank above) line) (headings_told (place_below (rank above) line) lines) e in
    let late : is_late_header (rank above) line ≡ false =
    not_late (is_late_header (rank above) line) (is_real_time line) (is_without_size line) line.number parts.0 in
    let place : place_below (rank above) line ≡ rank line.section = place_by above line line.is_header refl o.1.0 in (
      next_by above line line.is_header refl o.1.0 late,
      rising_from (suc number) line.section lines o.1.1 (ap (λ (n : ℕ). headings_told n lines) (sym place) ∙ parts.1),
    )

-- the lines of a text, none of whose headings has a fault
rising : (text : List ℕ) → headings_told 0 (lines_of text) ≡ None → AreRising Prelude (lines_of text)
rising text e = rising_from 1 Prelude (lines_of text) (in_order text) e

-- one line of a section -----------------------------------------------------------------------------------------------

-- how many lines stand above a section's place
abbrev front : ℕ → List Line → ℕ
front place lines = prefix_len (stands_above place) lines

-- the line belongs to the section's lines
abbrev belongs : Section → Line → Bool
belongs section line = is_of section line && (line.is_there && not line.is_header)

abbrev is_there : Line → Bool
is_there line = line.is_there

off_section : (section : Section) (line : Line) → is_of section line ≡ false → belongs section line ≡ false
off_section section line e = ap (λ (b : Bool). b && (line.is_there && not line.is_header)) e

three_off : (a b : Bool) → a && (b && false) ≡ false
three_off true true = refl
three_off true false = refl
three_off false b = refl

header_off : (section : Section) (line : Line) → line.is_header ≡ true → belongs section line ≡ false
header_off section line e = ap (λ (b : Bool). is_of section line && (line.is_there && not b)) e
    ∙ three_off (is_of section line) line.is_there

plain_on : (section : Section) (line : Line) → is_of section line ≡ true → line.is_header ≡ false →
    belongs section line ≡ line.is_there
plain_on section line s e = ap₂ (λ a b. a && (line.is_there && not b)) s e ∙ and-true line.is_there

-- the section's lines, with one more above
one_line : (section : Section) (line : Line) (lines : List Line) (kept : Bool) → belongs section line ≡ kept →
    section_lines (line ∷ lines) section ≡ cond kept (line ∷ section_lines lines section) (section_lines lines section)
one_line section line lines kept e = ap (λ (b : Bool).
    cond b (line ∷ section_lines lines section) (section_lines lines section)) e

any_by : (section : Section) (line : Line) (headers : List Line) (heads mine : Bool) → is_of section line ≡ mine →
    has_section (cond heads (line ∷ headers) headers) section ≡ ((heads && mine) || has_section headers section)
any_by section line headers true mine e = ap (λ (b : Bool). b || has_section headers section) e
any_by section line headers false mine e = refl

-- whether it has a header, with one more line above
one_header : (section : Section) (line : Line) (lines : List Line) (heads mine : Bool) → line.is_header ≡ heads →
    is_of section line ≡ mine →
    has_section (header_lines (line ∷ lines)) section ≡ ((heads && mine) || has_section (header_lines lines) section)
one_header section line lines heads mine e s =
    any_by section line (header_lines lines) line.is_header mine s
    ∙ ap (λ (b : Bool). (b && mine) || has_section (header_lines lines) section) e

found_by : (section : Section) (line : Line) (headers : List Line) (heads mine : Bool) → is_of section line ≡ mine →
    find (is_of section) (cond heads (line ∷ headers) headers) ≡ cond (heads && mine) (Some line)
    (find (is_of section) headers)
found_by section line headers true mine e = ap (λ (b : Bool). cond b (Some line) (find (is_of section) headers)) e
found_by section line headers false mine e = refl

-- its first header, with one more line above
one_found : (section : Section) (line : Line) (lines : List Line) (heads mine : Bool) → line.is_header ≡ heads →
    is_of section line ≡ mine →
    find (is_of section) (header_lines (line ∷ lines)) ≡ cond (heads && mine) (Some line)
    (find (is_of section) (header_lines lines))
one_found section line lines heads mine e s =
    found_by section line (header_lines lines) line.is_header mine s
    ∙ ap (λ (b : Bool). cond (b && mine) (Some line) (find (is_of section) (header_lines lines))) e

-- how many lines stand above, with one more
front_in : (place : ℕ) (line : Line) (lines : List Line) → nat_lt (rank line.section) place ≡ true →
    front place (line ∷ lines) ≡ suc (front place lines)
front_in place line lines e = let more : 1 + front place lines ≡ suc (front place lines) = omega arith in rw e more

front_out : (place : ℕ) (line : Line) (lines : List Line) → nat_lt (rank line.section) place ≡ false →
    front place (line ∷ lines) ≡ 0
front_out place line lines e = rw e refl

-- below a later section -----------------------------------------------------------------------------------------------

-- nothing of a section below a later one
record IsPast (section : Section) (lines : List Line) : Type 0 where
  none : section_lines lines section ≡ []
  lacks : has_section (header_lines lines) section ≡ false

later_than : (section above : Section) (line : Line) → rank section < rank above → IsNext above line →
    rank section < rank line.section
later_than section above line low (Stays e s) = rw s low
later_than section above line low (Begins e rises) = omega arith

lacks_by : (heads other : Bool) → other ≡ false → ((heads && false) || other) ≡ false
lacks_by true other e = e
lacks_by false other e = e

past : (section above : Section) (lines : List Line) → rank section < rank above → AreRising above lines →
    IsPast section lines
past section above [] low r = record { none = refl; lacks = refl }
past section above (line ∷ lines) low r =
    let now : rank section < rank line.section = later_than section above line low r.0 in
    let off : is_of section line ≡ false = apart (rank section) (rank line.section) now in
    let rest = past section line.section lines now r.1 in
    record {
      none = one_line section line lines false (off_section section line off) ∙ rest.none;
      lacks = one_header section line lines line.is_header false refl off
          ∙ lacks_by line.is_header (has_section (header_lines lines) section) rest.lacks;
    }

-- within a section ----------------------------------------------------------------------------------------------------

-- below the header of a section its lines are those up to the next header
record IsInside (section : Section) (lines : List Line) : Type 0 where
  same : section_lines lines section ≡ filter is_there (take (front (suc (rank section)) lines) lines)
  lacks : has_section (header_lines lines) section ≡ false

taken_more : (n : ℕ) (line : Line) (lines : List Line) (k : ℕ) → n ≡ suc k →
    filter is_there (take n (line ∷ lines)) ≡ cond line.is_there (line ∷ filter is_there (take k lines))
    (filter is_there (take k lines))
taken_more n line lines k e = rw e refl

taken_none : (n : ℕ) (lines : List Line) → n ≡ 0 → filter is_there (take n lines) ≡ []
taken_none n lines e = rw e refl

inside_by : (section above : Section) (line : Line) (lines : List Line) → rank above ≡ rank section →
    IsNext above line → AreRising line.section lines → (rank line.section ≡ rank section → IsInside section lines) →
    IsInside section (line ∷ lines)
inside_by section above line lines is (Stays e s) r ih =
    let now : rank line.section ≡ rank section = ap rank s ∙ is in
    let on : is_of section line ≡ true = eq-eqb (rank section) (rank line.section) (sym now) in
    let place : ℕ = suc (rank section) in
    let more : front place (line ∷ lines) ≡ suc (front place lines) =
    front_in place line lines (lt-ltb (rank line.section) place (omega (arith, now))) in
    let rest = ih now in
    record {
      same = one_line section line lines line.is_there (plain_on section line on e)
          ∙ ap (λ (kept : List Line). cond line.is_there (line ∷ kept) kept) rest.same
          ∙ sym (taken_more (front place (line ∷ lines)) line lines (front place lines) more);
      lacks = one_header section line lines false true e on ∙ rest.lacks;
    }
inside_by section above line lines is (Begins e rises) r ih =
    let now : rank section < rank line.section = omega (arith, is) in
    let off : is_of section line ≡ false = apart (rank section) (rank line.section) now in
    let place : ℕ = suc (rank section) in
    let none : front place (line ∷ lines) ≡ 0 =
    front_out place line lines (not_less (rank line.section) place (omega arith)) in
    let rest = past section line.section lines now r in
    record {
      same = one_line section line lines false (off_section section line off) ∙ rest.none
          ∙ sym (taken_none (front place (line ∷ lines)) (line ∷ lines) none);
      lacks = one_header section line lines true false e off ∙ rest.lacks;
    }

inside : (section above : Section) (lines : List Line) → rank above ≡ rank section → AreRising above lines →
    IsInside section lines
inside section above [] is r = record { same = refl; lacks = refl }
inside section above (line ∷ lines) is r = inside_by section above line lines is r.0 r.1 (λ now.
    inside section line.section lines now r.1)

-- above a section -----------------------------------------------------------------------------------------------------

-- its lines begin right below its header
abbrev skip : ℕ → ℕ → ℕ
skip first second = if nat_lt first second then first + 1 else first

abbrev stretch : ℕ → ℕ → List Line → List Line
stretch first second lines = filter is_there (take (second - skip first second) (drop (skip first second) lines))

nat_lt_more : (f e : ℕ) → nat_lt (1 + f) (1 + e) ≡ nat_lt f e
nat_lt_more f e = grind (arith, nat_tests)

nat_lt_suc : (f e : ℕ) → nat_lt (suc f) (suc e) ≡ nat_lt f e
nat_lt_suc f e = grind (arith, nat_tests)

skip_by : (b : Bool) (f : ℕ) → (if b then suc f + 1 else suc f) ≡ suc (if b then f + 1 else f)
skip_by true f = omega arith
skip_by false f = refl

stretch_more : (f e first second : ℕ) (line : Line) (lines : List Line) → first ≡ suc f → second ≡ suc e →
    stretch first second (line ∷ lines) ≡ stretch f e lines
stretch_more f e first second line lines p q =
    let k : skip (suc f) (suc e) ≡ suc (skip f e) = ap (λ (b : Bool). if b then suc f + 1 else suc f) (nat_lt_suc f e)
    ∙ skip_by (nat_lt f e) f in
    let m : suc e - suc (skip f e) ≡ e - skip f e = omega arith in
    rw (p, q) (ap (λ (j : ℕ). filter is_there (take (suc e - j) (drop j (line ∷ lines)))) k
    ∙ ap (λ (j : ℕ). filter is_there (take j (drop (skip f e) lines))) m)

-- the number of its header, of lines from a number on
abbrev number_found : Option Line → ℕ
number_found header = unwrap_or (option_map (λ header. header.number) header) 0

record IsBefore (number : ℕ) (section : Section) (lines : List Line) : Type 0 where
  same : section_lines lines section ≡ stretch (front (rank section) lines) (front (suc (rank section)) lines) lines
  has : has_section (header_lines lines) section ≡ nat_lt (front (rank section) lines)
      (front (suc (rank section)) lines)
  begins : front (rank section) lines < front (suc (rank section)) lines →
      number_found (find (is_of section) (header_lines lines)) ≡ number + front (rank section) lines

has_more : (f e first second : ℕ) → first ≡ suc f → second ≡ suc e → nat_lt f e ≡ nat_lt first second
has_more f e first second p q = rw (p, q) (sym (nat_lt_suc f e))

cond_off : (heads : Bool) (line : Line) (other : Option Line) → cond (heads && false) (Some line) other ≡ other
cond_off true line other = refl
cond_off false line other = refl

or_off : (heads other : Bool) → ((heads && false) || other) ≡ other
or_off true other = refl
or_off false other = refl

-- a line above the section
before_low : (number : ℕ) (section : Section) (line : Line) (lines : List Line) → rank line.section < rank section →
    IsBefore (suc number) section lines → IsBefore number section (line ∷ lines)
before_low number section line lines low rest =
    let off : is_of section line ≡ false = apart_back (rank section) (rank line.section) low in
    let first : front (rank section) (line ∷ lines) ≡ suc (front (rank section) lines) =
    front_in (rank section) line lines (lt-ltb (rank line.section) (rank section) low) in
    let second : front (suc (rank section)) (line ∷ lines) ≡ suc (front (suc (rank section)) lines) =
    front_in (suc (rank section)) line lines (lt-ltb (rank line.section) (suc (rank section)) (omega arith)) in
    let further : suc number + front (rank section) lines ≡ number + front (rank section) (line ∷ lines) =
    omega (arith, first) in
    record {
      same = one_line section line lines false (off_section section line off) ∙ rest.same
          ∙ sym (stretch_more (front (rank section) lines) (front (suc (rank section)) lines) _ _ line lines first
          second);
      has = one_header section line lines line.is_header false refl off
          ∙ or_off line.is_header (has_section (header_lines lines) section) ∙ rest.has
          ∙ has_more (front (rank section) lines) (front (suc (rank section)) lines) _ _ first second;
      begins = λ h. ap number_found (one_found section line lines line.is_header false refl off
          ∙ cond_off line.is_header line (find (is_of section) (header_lines lines)))
          ∙ rest.begins (omega (arith, h, first, second)) ∙ further;
    }

stretch_here : (first second k : ℕ) (line : Line) (lines : List Line) → first ≡ 0 → second ≡ suc k →
    stretch first second (line ∷ lines) ≡ filter is_there (take k lines)
stretch_here first second k line lines p q =
    let some : nat_lt 0 (suc k) ≡ true = lt-ltb 0 (suc k) (omega arith) in
    let count : suc k - (0 + 1) ≡ k = omega arith in
    rw (p, q, some, count) refl

-- the header of the section
before_here : (number : ℕ) (section : Section) (line : Line) (lines : List Line) → line.number ≡ number →
    line.is_header ≡ true → rank line.section ≡ rank section → IsInside section lines →
    IsBefore number section (line ∷ lines)
before_here number section line lines n e is rest =
    let on : is_of section line ≡ true = eq-eqb (rank section) (rank line.section) (sym is) in
    let first : front (rank section) (line ∷ lines) ≡ 0 =
    front_out (rank section) line lines (not_less (rank line.section) (rank section) (omega (arith, is))) in
    let second : front (suc (rank section)) (line ∷ lines) ≡ suc (front (suc (rank section)) lines) =
    front_in (suc (rank section)) line lines (lt-ltb (rank line.section) (suc (rank section)) (omega (arith, is)))
    in
    let none : number ≡ number + front (rank section) (line ∷ lines) = omega (arith, first) in
    record {
      same = one_line section line lines false (header_off section line e) ∙ rest.same
          ∙ sym (stretch_here _ _ (front (suc (rank section)) lines) line lines first second);
      has = one_header section line lines true true e on
          ∙ sym (lt-ltb (front (rank section) (line ∷ lines)) (front (suc (rank section)) (line ∷ lines))
          (omega (arith, first, second)));
      begins = λ h. ap number_found (one_found section line lines true true e on) ∙ n ∙ none;
    }

stretch_none : (first second : ℕ) (lines : List Line) → first ≡ 0 → second ≡ 0 → stretch first second lines ≡ []
stretch_none first second lines p q = rw (p, q) refl

-- the header of a later section
before_high : (number : ℕ) (section : Section) (line : Line) (lines : List Line) → rank section < rank line.section →
    IsPast section lines → IsBefore number section (line ∷ lines)
before_high number section line lines high rest =
    let off : is_of section line ≡ false = apart (rank section) (rank line.section) high in
    let first : front (rank section) (line ∷ lines) ≡ 0 =
    front_out (rank section) line lines (not_less (rank line.section) (rank section) (omega arith)) in
    let second : front (suc (rank section)) (line ∷ lines) ≡ 0 =
    front_out (suc (rank section)) line lines (not_less (rank line.section) (suc (rank section)) (omega arith)) in
    record {
      same = one_line section line lines false (off_section section line off) ∙ rest.none
          ∙ sym (stretch_none _ _ (line ∷ lines) first second);
      has = one_header section line lines line.is_header false refl off
          ∙ lacks_by line.is_header (has_section (header_lines lines) section) rest.lacks
          ∙ sym (not_less (front (rank section) (line ∷ lines)) (front (suc (rank section)) (line ∷ lines))
          (omega (arith, first, second)));
      begins = λ h. absurd (omega (arith, h, first, second));
    }

begins_here : (above : Section) (line : Line) (section : Section) → rank above < rank section →
    rank line.section ≡ rank section → IsNext above line → line.is_header ≡ true
begins_here above line section low is (Stays e s) =
    absurd (let same : rank line.section ≡ rank above = ap rank s in omega (arith, same, is, low))
begins_here above line section low is (Begins e rises) = e

before_by : (number : ℕ) (section above : Section) (line : Line) (lines : List Line) → line.number ≡ number →
    rank above < rank section → IsNext above line → AreRising line.section lines →
    (rank line.section < rank section) ⊎ ((rank line.section ≡ rank section) ⊎ (rank section < rank line.section)) →
    (rank line.section < rank section → IsBefore (suc number) section lines) → IsBefore number section (line ∷ lines)
before_by number section above line lines n low next r (inl before) ih =
    before_low number section line lines before (ih before)
before_by number section above line lines n low next r (inr (inl is)) ih =
    before_here number section line lines n (begins_here above line section low is next) is
    (inside section line.section lines is r)
before_by number section above line lines n low next r (inr (inr high)) ih =
    before_high number section line lines high (past section line.section lines high r)

before : (number : ℕ) (section above : Section) (lines : List Line) → rank above < rank section →
    AreInOrder number above lines → AreRising above lines → IsBefore number section lines
before number section above [] low o r = record { same = refl; has = refl; begins = λ h. absurd (omega (arith, h)) }
before number section above (line ∷ lines) low o r =
    before_by number section above line lines o.0 low r.0 r.1 (three (rank line.section) (rank section)) (λ now.
    before (suc number) section line.section lines now o.1.1 r.1)

-- the sections of a text ----------------------------------------------------------------------------------------------

pub prelude_told : (text : List ℕ) (end : ℕ) → headings_told 0 (lines_of text) ≡ None → end ≡ boundary text 1 →
    section_lines (lines_of text) Prelude ≡ lines_between text 1 end
prelude_told text end o e =
    let told = inside Prelude Prelude (lines_of text) refl (rising text o) in
    let count : end - 1 ≡ front 1 (lines_of text) = omega (arith, e) in
    rw count told.same

section_by : (text : List ℕ) (first second : ℕ) (b : Bool) →
    filter is_there (take (second - (if b then first + 1 else first))
    (drop (if b then first + 1 else first) (lines_of text))) ≡ lines_between text
    (if b then (1 + first) + 1 else 1 + first) (1 + second)
section_by text first second true =
    let place : (1 + first) + 1 - 1 ≡ first + 1 = omega arith in
    let count : 1 + second - ((1 + first) + 1) ≡ second - (first + 1) = omega arith in
    rw (place, count) refl
section_by text first second false =
    let place : 1 + first - 1 ≡ first = omega arith in
    let count : 1 + second - (1 + first) ≡ second - first = omega arith in
    rw (place, count) refl

pub section_told : (text : List ℕ) (section : Section) (header end start : ℕ) → 0 < rank section →
    headings_told 0 (lines_of text) ≡ None → header ≡ boundary text (rank section) →
    end ≡ boundary text (suc (rank section)) →
    start ≡ (if nat_lt header end then header + 1 else header) →
    section_lines (lines_of text) section ≡ lines_between text start end
section_told text section header end start low o h e s =
    let told = before 1 section Prelude (lines_of text) low (in_order text) (rising text o) in
    let first : ℕ = front (rank section) (lines_of text) in
    let second : ℕ = front (suc (rank section)) (lines_of text) in
    rw (s, h, e, nat_lt_more first second) (told.same ∙ section_by text first second (nat_lt first second))

pub section_has : (text : List ℕ) (section : Section) (header end : ℕ) → 0 < rank section →
    headings_told 0 (lines_of text) ≡ None → header ≡ boundary text (rank section) →
    end ≡ boundary text (suc (rank section)) →
    has_section (header_lines (lines_of text)) section ≡ nat_lt header end
section_has text section header end low o h e =
    let told = before 1 section Prelude (lines_of text) low (in_order text) (rising text o) in
    rw (h, e) (told.has ∙ sym (nat_lt_more (front (rank section) (lines_of text))
    (front (suc (rank section)) (lines_of text))))

-- the number of a section's header
pub header_told : (text : List ℕ) (section : Section) (header end : ℕ) → 0 < rank section →
    headings_told 0 (lines_of text) ≡ None → header ≡ boundary text (rank section) →
    end ≡ boundary text (suc (rank section)) →
    header < end → header_number (lines_of text) section ≡ header
header_told text section header end low o h e some =
    let told = before 1 section Prelude (lines_of text) low (in_order text) (rising text o) in
    told.begins (omega (arith, h, e, some)) ∙ sym h
