-- Warnings of names that are used by marks are those by lists.
use Rattle.std.proofs.Common.{◌≡◌, ◌∙◌, ◌++◌, ◌+◌, ◌<◌, ◌||◌, ℕ, zero, suc, Bool, true, false, List, [], ◌∷◌}
use Rattle.std.proofs.Common.{length, replicate, get_or, refl, sym, subst, ap, ap₂, arith, append_assoc}
use Rattle.std.specs.Prelude.{All, IfSome, ◌&&◌, nat_eq, Option, Some, None, slice_set}
use Rattle.std.specs.List.{list_all}
use Rattle.std.proofs.lemmas.List.{append-nil, length-replicate}
use Rattle.std.proofs.lemmas.Option.{same_Some}
use Rattle.ps_model.specs.declared.texts.Section.TheVariants.{Legend, Layers}
use Rattle.ps_model.specs.text.Lines.{Line, lines_of}
use Rattle.ps_model.specs.text.Sections.{section_lines}
use Rattle.ps_model.specs.names.Names.{Meaning, One, AllOf, AnyOf, Names, meaning_of, object_count}
use Rattle.ps_model.specs.names.NameBounds.{AreBounded, IsBelow}
use Rattle.ps_model.specs.rules.SourceRules.{RuleLine}
use Rattle.ps_model.specs.board.Wins.{Win}
use Rattle.ps_model.specs.session.LevelLines.{Entry}
use Rattle.ps_model.specs.game.Games.{Game}
use Rattle.ps_facts.specs.Declarations.{Declared, legend_names, object_names}
use Rattle.ps_names.proofs.bounds.MembersBelow.{meaning_of_below}
use Rattle.ps_warnings.specs.declared.kinds.Warning.{Warning}
use Rattle.ps_warnings.specs.Marks.{is_marked, is_one_of, marked}
use Rattle.ps_warnings.specs.NameWarnings.{declaring_lines, name_warnings, used_lines, warned_of_name, warned_of_names}
use Rattle.ps_warnings.specs.ObjectWarnings.{object_meant, object_warnings, used_objects, warned_by, warned_of}
use Rattle.ps_warnings.specs.ObjectWarnings.{warned_of_object}
use Rattle.ps_warnings.specs.Spoken.{spoken_in, spoken_with}
use Rattle.ps_warnings.specs.Warnings.{unused_in}
use Rattle.ps_warnings.proofs.MarksMade.{length-marked, marked_are, marked_one, or_true}

-- objects -------------------------------------------------------------------------------------------------------------

-- an object of a name is one of the game's
below_of : (count : ℕ) (found : Option Meaning) (object : ℕ) → IfSome found (IsBelow count) →
    object_meant found ≡ Some object → object < count
below_of count None object below e = absurd (let h = e in cc)
below_of count (Some (One own)) object below e =
    subst (λ (k : ℕ). k < count) (same_Some own.0 object e) (below 0 own (omega arith))
below_of count (Some (AllOf line objects)) object below e = absurd (let h = e in cc)
below_of count (Some (AnyOf line objects)) object below e = absurd (let h = e in cc)

object_below : (names : Names) → AreBounded names → (name : List ℕ) (object : ℕ) →
    object_meant (meaning_of names name) ≡ Some object → object < object_count names
object_below names bounded name object e =
    below_of (object_count names) (meaning_of names name) object (meaning_of_below names bounded name) e

-- a name further
abbrev by_marks : Names → List Bool → Declared → List Declared → Option ℕ → List Warning
by_marks names marks named others found = elim found [
  | None ↦ warned_by names marks others
  | Some object ↦
      warned_of_object (is_marked marks object) named.line ++ warned_by names (marked marks (object ∷ [])) others
]

abbrev by_list : Names → List ℕ → Declared → List Declared → Option ℕ → List Warning
by_list names used named others found = elim found [
  | None ↦ warned_of names used others
  | Some object ↦ warned_of_object (is_one_of used object) named.line ++ warned_of names (object ∷ used) others
]

pub none_named : (names : Names) (marks : List Bool) (named : Declared) (told : List Warning) →
    object_meant (meaning_of names named.name) ≡ None → (rest : List Declared) →
    told ++ warned_by names marks rest ≡ told ++ warned_by names marks (named ∷ rest)
none_named names marks named told e rest =
    sym (ap (λ (found : Option ℕ). told ++ by_marks names marks named rest found) e)

pub one_named : (names : Names) (marks next : List Bool) (named : Declared) (object : ℕ) (before after : List Warning) →
    object_meant (meaning_of names named.name) ≡ Some object → next ≡ slice_set marks object true →
    after ≡ before ++ warned_of_object (is_marked marks object) named.line → (rest : List Declared) →
    after ++ warned_by names next rest ≡ before ++ warned_by names marks (named ∷ rest)
one_named names marks next named object before after e n a rest =
    ap₂ (λ (told : List Warning) (used : List Bool). told ++ warned_by names used rest) a n
    ∙ append_assoc before (warned_of_object (is_marked marks object) named.line)
    (warned_by names (slice_set marks object true) rest)
    ∙ sym (ap (λ (found : Option ℕ). before ++ by_marks names marks named rest found) e)

-- marks and lists tell alike
abbrev AreAlike : Names → List Declared → Type 0
AreAlike names declared = (marks : List Bool) (used : List ℕ) → length marks ≡ object_count names →
    ((k : ℕ) → k < object_count names → is_marked marks k ≡ is_one_of used k) →
    warned_by names marks declared ≡ warned_of names used declared

alike_by : (names : Names) (bounded : AreBounded names) (named : Declared) (others : List Declared) (found : Option ℕ) →
    object_meant (meaning_of names named.name) ≡ found → AreAlike names others → (marks : List Bool) (used : List ℕ) →
    length marks ≡ object_count names →
    ((k : ℕ) → k < object_count names → is_marked marks k ≡ is_one_of used k) →
    by_marks names marks named others found ≡ by_list names used named others found
alike_by names bounded named others None e more marks used long same = more marks used long same
alike_by names bounded named others (Some object) e more marks used long same =
    ap₂ (λ (first rest : List Warning). first ++ rest)
    (ap (λ (own : Bool). warned_of_object own named.line) (same object (object_below names bounded named.name object e)))
    (more (marked marks (object ∷ [])) (object ∷ used) (length-marked marks (object ∷ []) ∙ long)
    (λ k less. marked_one marks object k (omega arith) ∙ ap (λ (mark : Bool). nat_eq k object || mark) (same k less)))

all_alike : (names : Names) → AreBounded names → (declared : List Declared) → AreAlike names declared
all_alike names bounded [] marks used long same = refl
all_alike names bounded (named ∷ others) marks used long same =
    sym (ap (by_marks names marks named others) refl)
    ∙ alike_by names bounded named others (object_meant (meaning_of names named.name)) refl
    (all_alike names bounded others) marks used long same

pub objects_told : (names : Names) → AreBounded names → (count : ℕ) (used : List ℕ) (declared : List Declared) →
    count ≡ object_count names →
    warned_by names (marked (replicate count false) used) declared ≡ warned_of names used declared
objects_told names bounded count used declared many =
    all_alike names bounded declared (marked (replicate count false) used) used
    (length-marked (replicate count false) used ∙ length-replicate count false ∙ many)
    (λ k less. marked_are count used k (omega arith))

-- nothing is told where all are used
abbrev AllUsed : List Bool → Type 0
AllUsed marks = (k : ℕ) → k < length marks → is_marked marks k ≡ true

none_by : (names : Names) (bounded : AreBounded names) (named : Declared) (others : List Declared) (found : Option ℕ) →
    object_meant (meaning_of names named.name) ≡ found →
    ((marks : List Bool) → length marks ≡ object_count names → AllUsed marks → warned_by names marks others ≡ []) →
    (marks : List Bool) → length marks ≡ object_count names → AllUsed marks →
    by_marks names marks named others found ≡ []
none_by names bounded named others None e more marks long all = more marks long all
none_by names bounded named others (Some object) e more marks long all =
    ap₂ (λ (first rest : List Warning). first ++ rest)
    (ap (λ (own : Bool). warned_of_object own named.line)
    (let below : object < object_count names = object_below names bounded named.name object e in
    all object (omega arith)))
    (more (marked marks (object ∷ [])) (length-marked marks (object ∷ []) ∙ long)
    (λ k less. let within : k < length marks = rw (← length-marked marks (object ∷ [])) less in
    marked_one marks object k within ∙ ap (λ (mark : Bool). nat_eq k object || mark) (all k within)
    ∙ or_true (nat_eq k object)))

none_told : (names : Names) → AreBounded names → (declared : List Declared) (marks : List Bool) →
    length marks ≡ object_count names → AllUsed marks → warned_by names marks declared ≡ []
none_told names bounded [] marks long all = refl
none_told names bounded (named ∷ others) marks long all =
    none_by names bounded named others (object_meant (meaning_of names named.name)) refl
    (none_told names bounded others) marks long all

both_true : (a b : Bool) → (a && b) ≡ true → (a ≡ true) × (b ≡ true)
both_true true true e = (refl, refl)
both_true true false e = absurd (let h = e in cc)
both_true false b e = absurd (let h = e in cc)

all_marked : (marks : List Bool) (k : ℕ) → list_all (λ mark. mark) marks ≡ true → k < length marks →
    is_marked marks k ≡ true
all_marked [] k all within = absurd (omega arith)
all_marked (mark ∷ marks) zero all within = (both_true mark (list_all (λ m. m) marks) all).0
all_marked (mark ∷ marks) (suc k) all within =
    all_marked marks k (both_true mark (list_all (λ m. m) marks) all).1 (omega arith)

pub none_of_used : (names : Names) (marks : List Bool) (declared : List Declared) (told : List Warning) →
    AreBounded names → length marks ≡ object_count names → list_all (λ mark. mark) marks ≡ true →
    told ≡ told ++ warned_by names marks declared
none_of_used names marks declared told bounded long all =
    sym (ap (λ (more : List Warning). told ++ more)
    (none_told names bounded declared marks long (λ k less. all_marked marks k all less))
    ∙ append-nil told)

-- names ---------------------------------------------------------------------------------------------------------------

names_alike : (used other : ℕ → Bool) (lines : List ℕ) → All (λ line. used line ≡ other line) lines →
    warned_of_names used lines ≡ warned_of_names other lines
names_alike used other [] same = refl
names_alike used other (line ∷ lines) same =
    ap₂ (λ (first rest : List Warning). first ++ rest)
    (ap (λ (own : Bool). warned_of_name own line) (same 0 0 (omega arith)))
    (names_alike used other lines (λ k d less. same (suc k) d (omega arith)))

pub names_told : (text used lines : List ℕ) → All (λ line. line < length (lines_of text) + 1) lines →
    warned_of_names (is_marked (marked (replicate (length (lines_of text) + 1) false) used)) lines
    ≡ warned_of_names (is_one_of used) lines
names_told text used lines there =
    names_alike (is_marked (marked (replicate (length (lines_of text) + 1) false) used)) (is_one_of used) lines
    (λ k d less. marked_are (length (lines_of text) + 1) used (get_or lines k d) (there k d less))

-- both ----------------------------------------------------------------------------------------------------------------

-- objects, and then the names of LEGEND
pub unused_told : (text : List ℕ) (read : Game) (names : Names) (own : List RuleLine) (wins : List Win)
    (spoken : List Meaning) (entries : List Entry) (count : ℕ) (used found : List Bool) (declaring : List ℕ)
    (before middle after : List Warning) →
    AreBounded names → names ≡ read.names → own ≡ read.rules → wins ≡ read.wins → entries ≡ read.entries →
    spoken ≡ spoken_with names own wins → count ≡ object_count names →
    used ≡ marked (replicate count false) (used_objects spoken entries) →
    middle ≡ before ++ warned_by names used (object_names (lines_of text) ++ legend_names (lines_of text)) →
    found ≡ marked (replicate (length (lines_of text) + 1) false) (used_lines names spoken
    (section_lines (lines_of text) Legend) (section_lines (lines_of text) Layers)) →
    declaring ≡ declaring_lines names (section_lines (lines_of text) Legend) →
    All (λ line. line < length (lines_of text) + 1) declaring →
    after ≡ middle ++ warned_of_names (is_marked found) declaring →
    after ≡ before ++ unused_in read (lines_of text)
unused_told text read names own wins spoken entries count used found declaring before middle after bounded n o w e s c u
    m f d there a =
    let declared : List Declared = object_names (lines_of text) ++ legend_names (lines_of text) in
    let G : List Line = section_lines (lines_of text) Legend in
    let Y : List Line = section_lines (lines_of text) Layers in
    let all : spoken ≡ spoken_in read = s ∙ rw (n, o, w) refl in
    let objects : warned_by names used declared
    ≡ object_warnings read.names (spoken_in read) read.entries (lines_of text) =
    ap (λ (marks : List Bool). warned_by names marks declared) u
    ∙ objects_told names bounded count (used_objects spoken entries) declared c
    ∙ ap₂ (λ (ns : Names) (numbers : List ℕ). warned_of ns numbers declared) n (ap₂ used_objects all e) in
    let lines : warned_of_names (is_marked found) declaring ≡ name_warnings read.names (spoken_in read) G Y =
    ap (λ (marks : List Bool). warned_of_names (is_marked marks) declaring) f
    ∙ names_told text (used_lines names spoken G Y) declaring there
    ∙ ap (λ (ls : List ℕ). warned_of_names (is_one_of (used_lines names spoken G Y)) ls) d
    ∙ ap₂ (λ (ns : Names) (meanings : List Meaning). name_warnings ns meanings G Y) n all in
    a ∙ ap₂ (λ (xs ys : List Warning). xs ++ ys)
    (m ∙ ap (λ (told : List Warning). before ++ told) objects) lines
    ∙ append_assoc before (object_warnings read.names (spoken_in read) read.entries (lines_of text))
    (name_warnings read.names (spoken_in read) G Y)
