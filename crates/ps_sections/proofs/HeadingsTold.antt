-- The faults of headers and prelude are those that one pass tells.
use Rattle.std.proofs.Common.{◌≡◌, ℕ, suc, ◌+◌, ◌-◌, ◌<◌, ◌≤◌, Bool, true, false, ◌&&◌, ◌||◌, List, [], ◌∷◌, ◌++◌}
use Rattle.std.proofs.Common.{length, drop, flat_map, Option, Some, None, append_assoc, refl, sym, ap, ap₂, ◌∙◌, arith}
use Rattle.std.specs.Prelude.{⊤, nat_lt, nat_le, cond, if◌then◌else◌}
use Rattle.std.specs.List.{list_any}
use Rattle.std.specs.Option.{option_or, is_some}
use Rattle.std.proofs.lemmas.Bool.Decides.{nat_tests}
use Rattle.std.proofs.lemmas.List.{drop_more, at_drop_all}
use Rattle.std.proofs.lemmas.List.Folds.{list_any-append}
use Rattle.std.proofs.Math.Bool.{or-false}
use Rattle.ps_model.specs.declared.texts.Section.{Section}
use Rattle.ps_model.specs.declared.texts.Section.TheVariants.{Prelude}
use Rattle.ps_model.specs.declared.faults.Fault.{Fault}
use Rattle.ps_model.specs.declared.faults.FaultKind.TheVariants.{SectionOrder, Realtime, BadFlickscreen}
use Rattle.ps_model.specs.text.Faults.{when, first_fault}
use Rattle.ps_model.specs.text.Lines.{Line, lines_of}
use Rattle.ps_model.specs.text.LineNumbers.{no_line, line_at}
use Rattle.ps_model.specs.text.Sections.{rank, header_lines, is_out_of_order, is_real_time, is_without_size}
use Rattle.ps_model.specs.text.Sections.{heading_faults_of}
use Rattle.ps_laws.proofs.common.LinesInOrder.{AreInOrder, in_order}
use Rattle.ps_sections.specs.Headings.{is_late_header, fault_by, heading_fault, place_below, headings_told}

-- the header's section has no earlier place than that
abbrev reaches : ℕ → Line → Bool
reaches place header = nat_le place (rank header.section)

-- it stands above the line of that number, too
abbrev reaches_above : ℕ → ℕ → Line → Bool
reaches_above number place header = nat_lt header.number number && reaches place header

-- headers above the line of a number
abbrev AreAbove : ℕ → List Line → Type 0
AreAbove number [] = ⊤
AreAbove number (header ∷ headers) = (header.number < number) × AreAbove number headers

still_above : (number : ℕ) (headers : List Line) → AreAbove number headers → AreAbove (suc number) headers
still_above number [] all = tt
still_above number (header ∷ headers) all = (omega (arith, all.0), still_above number headers all.1)

one_more_above : (number : ℕ) (headers : List Line) (header : Line) → header.number ≡ number →
    AreAbove number headers → AreAbove (suc number) (headers ++ header ∷ [])
one_more_above number [] header e all = (omega (arith, e), tt)
one_more_above number (first ∷ headers) header e all =
    (omega (arith, all.0), one_more_above number headers header e all.1)

test_above : (number : ℕ) (place : ℕ) (header : Line) → header.number < number →
    reaches_above number place header ≡ reaches place header
test_above number place header h = let less : nat_lt header.number number ≡ true = grind (arith, nat_tests) in
    rw less refl

test_not_above : (number : ℕ) (place : ℕ) (header : Line) → number ≤ header.number →
    reaches_above number place header ≡ false
test_not_above number place header h = let less : nat_lt header.number number ≡ false = grind (arith, nat_tests) in
    rw less refl

above_reach : (number place : ℕ) (headers : List Line) → AreAbove number headers →
    list_any (reaches_above number place) headers ≡ list_any (reaches place) headers
above_reach number place [] all = refl
above_reach number place (header ∷ headers) all =
    rw (test_above number place header all.0, above_reach number place headers all.1) refl

below_by : (number place : ℕ) (line : Line) (lines : List Line) (heads : Bool) → number ≤ line.number →
    list_any (reaches_above number place) (header_lines lines) ≡ false →
    list_any (reaches_above number place) (cond heads (line ∷ header_lines lines) (header_lines lines)) ≡ false
below_by number place line lines true l ih = rw (test_not_above number place line l) ih
below_by number place line lines false l ih = ih

none_below : (number place from : ℕ) (above : Section) (lines : List Line) → number ≤ from →
    AreInOrder from above lines → list_any (reaches_above number place) (header_lines lines) ≡ false
none_below number place from above [] l o = refl
none_below number place from above (line ∷ lines) l o =
    below_by number place line lines line.is_header (omega (arith, o.0))
    (none_below number place (suc from) line.section lines (omega arith) o.1.1)

none_at_zero : (place : ℕ) → 1 ≤ place → false ≡ nat_le place 0
none_at_zero place h = let more : nat_le place 0 ≡ false = grind (arith, nat_tests) in sym more

most_by : (place above now : ℕ) (first second : Bool) → nat_le place above ≡ first → nat_le place now ≡ second →
    above < now → (first || (second || false)) ≡ second
most_by place above now true true f s h = refl
most_by place above now true false f s h = absurd (let low : place ≤ above = grind (arith, nat_tests) in
    let high : now < place = grind (arith, nat_tests) in omega arith)
most_by place above now false true f s h = refl
most_by place above now false false f s h = refl

-- headers above the line of a number, the last of a section of that place
record AreSeen (number above : ℕ) (seen : List Line) : Type 0 where
  early : AreAbove number seen
  most : (place : ℕ) → 1 ≤ place → list_any (reaches place) seen ≡ nat_le place above

and_by : (b first second : Bool) → (b ≡ true → first ≡ second) → b && first ≡ b && second
and_by true first second e = e refl
and_by false first second e = refl

late_is : (above number : ℕ) (section : Section) (seen : List Line) (line : Line) (lines : List Line) →
    AreSeen number above seen → AreInOrder number section (line ∷ lines) → line.is_header ≡ true →
    is_out_of_order (seen ++ header_lines (line ∷ lines)) line ≡ nat_le (rank line.section) above
late_is above number section seen line lines s o e =
    let place : ℕ = rank line.section in
    let headers : List Line = header_lines (line ∷ lines) in
    let front : list_any (reaches_above number place) seen ≡ nat_le place above = above_reach number place seen s.early
    ∙ s.most place (o.1.0.header e) in
    let behind : list_any (reaches_above number place) headers ≡ false =
    none_below number place number section (line ∷ lines) (omega arith) o in
    ap (λ (n : ℕ). list_any (reaches_above n place) (seen ++ headers)) o.0
    ∙ list_any-append (reaches_above number place) seen headers ∙ ap₂ (λ a b. a || b) front behind
    ∙ or-false (nat_le place above)

late_by : (above number : ℕ) (section : Section) (seen : List Line) (line : Line) (lines : List Line) →
    AreSeen number above seen → AreInOrder number section (line ∷ lines) →
    line.is_header && is_out_of_order (seen ++ header_lines (line ∷ lines)) line ≡ is_late_header above line
late_by above number section seen line lines s o =
    and_by line.is_header (is_out_of_order (seen ++ header_lines (line ∷ lines)) line)
    (nat_le (rank line.section) above) (late_is above number section seen line lines s o)

-- the first of a line's faults, or else of those after
first_of : (late real sizeless : Bool) (number : ℕ) (others : List Fault) →
    first_fault ((when late SectionOrder number ++ (when real Realtime number ++ when sizeless BadFlickscreen number))
    ++ others) ≡ option_or (fault_by late real sizeless number) (first_fault others)
first_of true real sizeless number others = refl
first_of false true sizeless number others = refl
first_of false false true number others = refl
first_of false false false number others = refl

most_next : (above place now : ℕ) → above < now → (nat_le place above || (nat_le place now || false)) ≡ nat_le place now
most_next above place now h = most_by place above now (nat_le place above) (nat_le place now) refl refl h

-- the headers above the next line
seen_next : (number above : ℕ) (seen : List Line) (line : Line) (heads : Bool) → line.number ≡ number →
    heads && nat_le (rank line.section) above ≡ false → AreSeen number above seen →
    AreSeen (suc number) (if heads then rank line.section else above) (if heads then seen ++ line ∷ [] else seen)
seen_next number above seen line false n l s = record { early = still_above number seen s.early; most = s.most }
seen_next number above seen line true n l s =
    let less : above < rank line.section = grind (arith, nat_tests) in
    record {
      early = one_more_above number seen line n s.early;
      most = λ place h. list_any-append (reaches place) seen (line ∷ [])
          ∙ ap (λ (b : Bool). b || (nat_le place (rank line.section) || false)) (s.most place h)
          ∙ most_next above place (rank line.section) less;
    }

-- headers above a line, the line, and those below it
parted_by : (seen : List Line) (line : Line) (lines : List Line) (heads : Bool) →
    seen ++ cond heads (line ∷ header_lines lines) (header_lines lines) ≡ (if heads then seen ++ line ∷ [] else seen)
    ++ header_lines lines
parted_by seen line lines true = sym (append_assoc seen (line ∷ []) (header_lines lines))
parted_by seen line lines false = refl

or_by : (fault : Option Fault) (first second : Option Fault) → (fault ≡ None → first ≡ second) →
    option_or fault first ≡ option_or fault second
or_by None first second e = e refl
or_by (Some fault) first second e = refl

pub not_late : (late real sizeless : Bool) (number : ℕ) → fault_by late real sizeless number ≡ None → late ≡ false
not_late true real sizeless number e = absurd (let h = e in cc)
not_late false real sizeless number e = refl

-- the first fault of lines, below headers that are told
told_from : (number above : ℕ) (section : Section) (seen lines : List Line) → AreInOrder number section lines →
    AreSeen number above seen →
    first_fault (flat_map (heading_faults_of (seen ++ header_lines lines)) lines) ≡ headings_told above lines
told_from number above section seen [] o s = refl
told_from number above section seen (line ∷ lines) o s =
    let headers : List Line = seen ++ header_lines (line ∷ lines) in
    let late : line.is_header && is_out_of_order headers line ≡ is_late_header above line =
    late_by above number section seen line lines s o in
    let first : first_fault (flat_map (heading_faults_of headers) (line ∷ lines)) ≡ option_or
    (fault_by (line.is_header && is_out_of_order headers line) (is_real_time line) (is_without_size line)
    line.number) (first_fault (flat_map (heading_faults_of headers) lines)) =
    first_of (line.is_header && is_out_of_order headers line) (is_real_time line) (is_without_size line) line.number
    (flat_map (heading_faults_of headers) lines) in
    let here : first_fault (flat_map (heading_faults_of headers) (line ∷ lines)) ≡ option_or (heading_fault above line)
    (first_fault (flat_map (heading_faults_of headers) lines)) =
    first ∙ ap (λ (late : Bool). option_or (fault_by late (is_real_time line) (is_without_size line) line.number)
    (first_fault (flat_map (heading_faults_of headers) lines))) late in
    here ∙ or_by (heading_fault above line) (first_fault (flat_map (heading_faults_of headers) lines))
    (headings_told (place_below above line) lines)
    (λ none. ap (λ (headers : List Line). first_fault (flat_map (heading_faults_of headers) lines))
    (parted_by seen line lines line.is_header)
    ∙ told_from (suc number) (place_below above line) line.section (if line.is_header then seen ++ line ∷ [] else seen)
    lines o.1.1
    (seen_next number above seen line line.is_header o.0
    (not_late (is_late_header above line) (is_real_time line) (is_without_size line) line.number none) s))

-- the first fault of headers and prelude, line by line
pub headings-told : (text : List ℕ) → first_fault
    (flat_map (heading_faults_of (header_lines (lines_of text))) (lines_of text)) ≡ headings_told 0 (lines_of text)
headings-told text = told_from 1 0 Prelude [] (lines_of text) (in_order text)
    (record { early = tt; most = λ place h. none_at_zero place h })

-- a line without a fault leaves it to those below it
pub told_below : (text : List ℕ) (line above below : ℕ) → 1 ≤ line → line ≤ length (lines_of text) →
    heading_fault above (line_at text line) ≡ None →
    below ≡ place_below above (line_at text line) →
    headings_told below (drop (line + 1 - 1) (lines_of text)) ≡ headings_told above (drop (line - 1) (lines_of text))
told_below text line above below one within none e =
    let lines : List Line = lines_of text in
    let here : Line = line_at text line in
    let place : line + 1 - 1 ≡ line - 1 + 1 = omega arith in
    let whole : headings_told above (drop (line - 1) lines) ≡ option_or (heading_fault above here)
    (headings_told (place_below above here) (drop (line - 1 + 1) lines)) =
    ap (headings_told above) (drop_more lines (line - 1) no_line (omega arith)) in
    rw (place, e) (sym (whole ∙ ap (λ (fault : Option Fault).
    option_or fault (headings_told (place_below above here) (drop (line - 1 + 1) lines))) none))

-- a fault of a line is the first of those from there on
pub told_here : (text : List ℕ) (line above : ℕ) (fault : Option Fault) → 1 ≤ line → line ≤ length (lines_of text) →
    fault ≡ heading_fault above (line_at text line) → is_some fault ≡ true →
    fault ≡ headings_told above (drop (line - 1) (lines_of text))
told_here text line above None one within e some = absurd (let h = some in cc)
told_here text line above (Some fault) one within e some =
    let lines : List Line = lines_of text in
    let here : Line = line_at text line in
    sym (ap (headings_told above) (drop_more lines (line - 1) no_line (omega arith))
    ∙ ap (λ (first : Option Fault). option_or first
    (headings_told (place_below above here) (drop (line - 1 + 1) lines))) (sym e))

-- after the last line no fault is told
pub told_past : (text : List ℕ) (line above : ℕ) → length (lines_of text) + 1 ≤ line →
    headings_told above (drop (line - 1) (lines_of text)) ≡ None
told_past text line above past = at_drop_all (headings_told above) (lines_of text) (line - 1) (omega arith)
