-- Levels and their numbers: the places of levels from an entry on, one by one.
use Rattle.std.proofs.Common.{◌≡◌, ◌∙◌, ◌⊎◌, inl, inr, ℕ, zero, suc, ◌+◌, ◌-◌, ◌<◌, ◌≤◌, Bool, true, false, Option}
use Rattle.std.proofs.Common.{Some, None, List, [], ◌∷◌, filter, length, take, slice_get, refl, sym, subst, ap, arith}
use Rattle.std.specs.Prelude.{option_and_then, option_map}
use Rattle.std.specs.List.{range_with_len}
use Rattle.std.proofs.lemmas.Bool.{cases_lt}
use Rattle.std.proofs.lemmas.Option.{same_Some, slice_get_within}
use Rattle.ps_model.specs.board.Levels.{Level}
use Rattle.ps_model.specs.board.Turns.{Script, script_at}
use Rattle.ps_model.specs.session.LevelLines.{Entry, LevelEntry, MessageEntry}
use Rattle.ps_model.specs.session.Sessions.{is_level, level_number}
use Rattle.ps_model.specs.game.Games.{Game, game}
use Rattle.ps_model.specs.game.Tellings.{Told}
use Rattle.ps_model.specs.game.Headline.{Answer, Ends, Refuses, WantsMemory, CannotRead, CannotWrite, Answers}
use Rattle.ps_model.specs.game.Headline.{script_of_text}
use Rattle.ps_model.specs.game.LevelRuns.{AnswersFromLevel, IsTrueOfLevel, LacksLevel, LevelAnswer, Plays}
use Rattle.ps_model.specs.game.LevelRuns.{AnswersIn, is_level_found, level_count, level_entries, level_entry}
use Rattle.ps_model.specs.game.LevelRuns.{script_at_level}
use Rattle.ps_laws.specs.LevelNumbers.{FoundLevelsAreNumbered, NumberedLevelsAreFound, LackedLevelsAreBeyond}
use Rattle.ps_laws.specs.LevelNumbers.{FirstLevelIsStart, AnswersFromStart, AnswersAreTrueOfLevels}

-- the places of the levels among `count` entries, from one on
abbrev pub places_from : List Entry → ℕ → ℕ → List ℕ
places_from entries at count = filter (λ entry. is_level_found (slice_get entries entry)) (range_with_len at count)

-- how many of the first entries are levels
abbrev pub levels_before : List Entry → ℕ → ℕ
levels_before entries at = length (filter is_level (take at entries))

-- steps ---------------------------------------------------------------------------------------------------------------

pub place_here : (entries : List Entry) (at count : ℕ) → is_level_found (slice_get entries at) ≡ true →
    places_from entries at (suc count) ≡ at ∷ places_from entries (at + 1) count
place_here entries at count is = rw is refl

pub no_place_here : (entries : List Entry) (at count : ℕ) → is_level_found (slice_get entries at) ≡ false →
    places_from entries at (suc count) ≡ places_from entries (at + 1) count
no_place_here entries at count is = rw is refl

pub one_before : (entries : List Entry) (at : ℕ) → is_level_found (slice_get entries at) ≡ true →
    levels_before entries (suc at) ≡ suc (levels_before entries at)
one_before [] at is = let clash = is in cc
one_before (MessageEntry text ∷ entries) zero is = let clash = is in cc
one_before (LevelEntry level ∷ entries) zero is = refl
one_before (MessageEntry text ∷ entries) (suc at) is = one_before entries at is
one_before (LevelEntry level ∷ entries) (suc at) is = ap suc (one_before entries at is)

pub none_before : (entries : List Entry) (at : ℕ) → is_level_found (slice_get entries at) ≡ false →
    levels_before entries (suc at) ≡ levels_before entries at
none_before [] zero is = refl
none_before [] (suc at) is = refl
none_before (MessageEntry text ∷ entries) zero is = refl
none_before (LevelEntry level ∷ entries) zero is = let clash = is in cc
none_before (MessageEntry text ∷ entries) (suc at) is = none_before entries at is
none_before (LevelEntry level ∷ entries) (suc at) is = ap suc (none_before entries at is)

-- numbers -------------------------------------------------------------------------------------------------------------

-- what is so of an entry that is found for a number
abbrev pub IsNumbered : List Entry → ℕ → ℕ → Type 0
IsNumbered entries entry level =
    (is_level_found (slice_get entries entry) ≡ true) × (levels_before entries (suc entry) ≡ level)

-- of the places from one on, each has the number after those of the levels before it
abbrev AreNumbered : List Entry → ℕ → ℕ → Type 0
AreNumbered entries at count = (before entry : ℕ) → slice_get (places_from entries at count) before ≡ Some entry →
    IsNumbered entries entry (levels_before entries at + suc before)

with_level : (entries : List Entry) (count at : ℕ) → AreNumbered entries (at + 1) count →
    is_level_found (slice_get entries at) ≡ true → AreNumbered entries at (suc count)
with_level entries count at later is zero entry found =
    let here : Some at ≡ Some entry =
    ap (λ (places : List ℕ). slice_get places 0) (sym (place_here entries at count is)) ∙ found in
    let same : at ≡ entry = same_Some at entry here in
    let sum : levels_before entries at + 1 ≡ suc (levels_before entries at) = omega arith in (
      ap (λ (place : ℕ). is_level_found (slice_get entries place)) (sym same) ∙ is,
      ap (λ (place : ℕ). levels_before entries (suc place)) (sym same) ∙ one_before entries at is ∙ sym sum,
    )
with_level entries count at later is (suc before) entry found =
    let there : slice_get (places_from entries (at + 1) count) before ≡ Some entry =
    ap (λ (places : List ℕ). slice_get places (suc before)) (sym (place_here entries at count is)) ∙ found in
    let rest = later before entry there in
    let next : at + 1 ≡ suc at = omega arith in
    let more : levels_before entries (at + 1) ≡ suc (levels_before entries at) =
    ap (levels_before entries) next ∙ one_before entries at is in
    let sum : suc (levels_before entries at) + suc before ≡ levels_before entries at + suc (suc before) = omega arith in
    (rest.0, rest.1 ∙ ap (λ (n : ℕ). n + suc before) more ∙ sum)

without_level : (entries : List Entry) (count at : ℕ) → AreNumbered entries (at + 1) count →
    is_level_found (slice_get entries at) ≡ false → AreNumbered entries at (suc count)
without_level entries count at later is before entry found =
    let there : slice_get (places_from entries (at + 1) count) before ≡ Some entry =
    ap (λ (places : List ℕ). slice_get places before) (sym (no_place_here entries at count is)) ∙ found in
    let rest = later before entry there in
    let next : at + 1 ≡ suc at = omega arith in
    let same : levels_before entries (at + 1) ≡ levels_before entries at =
    ap (levels_before entries) next ∙ none_before entries at is in
    (rest.0, rest.1 ∙ ap (λ (n : ℕ). n + suc before) same)

either_way : (entries : List Entry) (count at : ℕ) (found : Bool) → is_level_found (slice_get entries at) ≡ found →
    AreNumbered entries (at + 1) count → AreNumbered entries at (suc count)
either_way entries count at true is later = with_level entries count at later is
either_way entries count at false is later = without_level entries count at later is

numbered_from : (entries : List Entry) (count at : ℕ) → AreNumbered entries at count
numbered_from entries zero at before entry found = let clash = found in cc
numbered_from entries (suc count) at before entry found =
    either_way entries count at (is_level_found (slice_get entries at)) refl (numbered_from entries count (at + 1))
    before entry found

pub found_numbered : (entries : List Entry) (level entry : ℕ) → level_entry entries level ≡ Some entry →
    IsNumbered entries entry level
found_numbered entries zero entry found = let clash = found in cc
found_numbered entries (suc before) entry found =
    let is = numbered_from entries (length entries) 0 before entry found in
    let sum : 0 + suc before ≡ suc before = omega arith in
    (is.0, is.1 ∙ sum)

pub found_levels_are_numbered : FoundLevelsAreNumbered
found_levels_are_numbered script level entry found = found_numbered script.entries level entry found

-- found ---------------------------------------------------------------------------------------------------------------

step_up : (entries : List Entry) (at : ℕ) (found : Bool) → is_level_found (slice_get entries at) ≡ found →
    levels_before entries at ≤ levels_before entries (suc at)
step_up entries at true is = let more = one_before entries at is in omega (arith, more)
step_up entries at false is = let same = none_before entries at is in omega (arith, same)

never_fewer : (entries : List Entry) (at more : ℕ) → levels_before entries at ≤ levels_before entries (at + more)
never_fewer entries at zero = let same : at + 0 ≡ at = omega arith in rw same (omega arith)
never_fewer entries at (suc more) =
    let next : at + suc more ≡ suc (at + more) = omega arith in
    let first = never_fewer entries at more in
    let last = step_up entries (at + more) (is_level_found (slice_get entries (at + more))) refl in
    rw next (omega (arith, first, last))

-- of the places from one on, that of a level stands after those of the levels between
abbrev AreFound : List Entry → ℕ → ℕ → Type 0
AreFound entries at count = (before entry : ℕ) → at ≤ entry → entry < at + count →
    is_level_found (slice_get entries entry) ≡ true →
    levels_before entries (suc entry) ≡ levels_before entries at + suc before →
    slice_get (places_from entries at count) before ≡ Some entry

found_here : (entries : List Entry) (count at before : ℕ) → is_level_found (slice_get entries at) ≡ true →
    levels_before entries (suc at) ≡ levels_before entries at + suc before →
    slice_get (places_from entries at (suc count)) before ≡ Some at
found_here entries count at zero is number =
    ap (λ (places : List ℕ). slice_get places 0) (place_here entries at count is)
found_here entries count at (suc before) is number =
    let one = one_before entries at is in absurd (omega (arith, one, number))

found_there : (entries : List Entry) (count at before entry : ℕ) (found : Bool) →
    is_level_found (slice_get entries at) ≡ found → AreFound entries (at + 1) count → at < entry →
    entry < at + suc count → is_level_found (slice_get entries entry) ≡ true →
    levels_before entries (suc entry) ≡ levels_before entries at + suc before →
    slice_get (places_from entries at (suc count)) before ≡ Some entry
found_there entries count at before entry false is later below within level number =
    let next : at + 1 ≡ suc at = omega arith in
    let same : levels_before entries (at + 1) ≡ levels_before entries at =
    ap (levels_before entries) next ∙ none_before entries at is in
    ap (λ (places : List ℕ). slice_get places before) (no_place_here entries at count is)
    ∙ later before entry (omega (arith, below)) (omega (arith, within)) level
    (number ∙ ap (λ (n : ℕ). n + suc before) (sym same))
found_there entries count at zero entry true is later below within level number =
    let one = one_before entries at is in
    let last = one_before entries entry level in
    let sum : suc at + (entry - suc at) ≡ entry = omega (arith, below) in
    let between : levels_before entries (suc at) ≤ levels_before entries entry =
    subst (λ (n : ℕ). levels_before entries (suc at) ≤ levels_before entries n) sum
    (never_fewer entries (suc at) (entry - suc at)) in
    absurd (omega (arith, one, last, between, number))
found_there entries count at (suc before) entry true is later below within level number =
    let next : at + 1 ≡ suc at = omega arith in
    let more : levels_before entries (at + 1) ≡ suc (levels_before entries at) =
    ap (levels_before entries) next ∙ one_before entries at is in
    ap (λ (places : List ℕ). slice_get places (suc before)) (place_here entries at count is)
    ∙ later before entry (omega (arith, below)) (omega (arith, within)) level (omega (arith, number, more))

found_either : (entries : List Entry) (count at before entry : ℕ) → AreFound entries (at + 1) count →
    (entry < suc at) ⊎ (suc at ≤ entry) → at ≤ entry → entry < at + suc count →
    is_level_found (slice_get entries entry) ≡ true →
    levels_before entries (suc entry) ≡ levels_before entries at + suc before →
    slice_get (places_from entries at (suc count)) before ≡ Some entry
found_either entries count at before entry later (inl below) above within level number =
    let same : at ≡ entry = omega (arith, below, above) in
    subst (λ (n : ℕ). is_level_found (slice_get entries n) ≡ true →
    levels_before entries (suc n) ≡ levels_before entries at + suc before →
    slice_get (places_from entries at (suc count)) before ≡ Some n) same
    (found_here entries count at before) level number
found_either entries count at before entry later (inr beyond) above within level number =
    found_there entries count at before entry (is_level_found (slice_get entries at)) refl later
    (omega (arith, beyond)) within level number

found_from : (entries : List Entry) (count at : ℕ) → AreFound entries at count
found_from entries zero at before entry above within level number = absurd (omega (arith, above, within))
found_from entries (suc count) at before entry above within level number =
    found_either entries count at before entry (found_from entries count (at + 1)) (cases_lt entry (suc at)) above
    within level number

within_entries : (found : Option Entry) → is_level_found found ≡ true → (entry : Entry) × (found ≡ Some entry)
within_entries None is = let clash = is in cc
within_entries (Some entry) is = (entry, refl)

-- an entry that is a level is one of the entries
pub level_within : (entries : List Entry) (entry : ℕ) → is_level_found (slice_get entries entry) ≡ true →
    entry < length entries
level_within entries entry is =
    let found = within_entries (slice_get entries entry) is in slice_get_within entries entry found.0 found.1

pub numbered_found : (entries : List Entry) (entry : ℕ) → is_level_found (slice_get entries entry) ≡ true →
    level_entry entries (levels_before entries (suc entry)) ≡ Some entry
numbered_found entries entry is =
    let number = one_before entries entry is in
    let sum : 0 + suc (levels_before entries entry) ≡ suc (levels_before entries entry) = omega arith in
    let below = level_within entries entry is in
    ap (level_entry entries) number
    ∙ found_from entries (length entries) 0 (levels_before entries entry) entry (omega arith) (omega (arith, below)) is
    (number ∙ sym sum)

pub numbered_levels_are_found : NumberedLevelsAreFound
numbered_levels_are_found script entry is = numbered_found script.entries entry is

-- counts --------------------------------------------------------------------------------------------------------------

all_taken : (entries : List Entry) → levels_before entries (length entries) ≡ level_count entries
all_taken [] = refl
all_taken (MessageEntry text ∷ entries) = all_taken entries
all_taken (LevelEntry level ∷ entries) = ap suc (all_taken entries)

-- the levels before an entry, and the places from there on
counted_more : (entries : List Entry) (count at : ℕ) (found : Bool) → is_level_found (slice_get entries at) ≡ found →
    levels_before entries (at + 1) + length (places_from entries (at + 1) count) ≡ level_count entries →
    levels_before entries at + length (places_from entries at (suc count)) ≡ level_count entries
counted_more entries count at false is rest =
    let next : at + 1 ≡ suc at = omega arith in
    let same : levels_before entries (at + 1) ≡ levels_before entries at =
    ap (levels_before entries) next ∙ none_before entries at is in
    let places = ap length (no_place_here entries at count is) in
    omega (arith, rest, same, places)
counted_more entries count at true is rest =
    let next : at + 1 ≡ suc at = omega arith in
    let more : levels_before entries (at + 1) ≡ suc (levels_before entries at) =
    ap (levels_before entries) next ∙ one_before entries at is in
    let places : length (places_from entries at (suc count)) ≡ suc (length (places_from entries (at + 1) count)) =
    ap length (place_here entries at count is) in
    omega (arith, rest, more, places)

all_counted : (entries : List Entry) (count at : ℕ) → at + count ≡ length entries →
    levels_before entries at + length (places_from entries at count) ≡ level_count entries
all_counted entries zero at all =
    let end : at ≡ length entries = omega (arith, all) in
    let none : levels_before entries at + 0 ≡ levels_before entries at = omega arith in
    none ∙ ap (levels_before entries) end ∙ all_taken entries
all_counted entries (suc count) at all =
    counted_more entries count at (is_level_found (slice_get entries at)) refl
    (all_counted entries count (at + 1) (omega (arith, all)))

none_there : (places : List ℕ) (before : ℕ) → slice_get places before ≡ None → length places ≤ before
none_there [] before none = omega arith
none_there (place ∷ places) zero none = let clash = none in cc
none_there (place ∷ places) (suc before) none = let rest = none_there places before none in omega (arith, rest)

pub lacked_levels_are_beyond : LackedLevelsAreBeyond
lacked_levels_are_beyond entries zero none = inl refl
lacked_levels_are_beyond entries (suc before) none =
    let few : length (level_entries entries) ≤ before = none_there (level_entries entries) before none in
    let all : 0 + length (level_entries entries) ≡ level_count entries =
    all_counted entries (length entries) 0 (omega arith) in
    inr (omega (arith, few, all))

-- runs ----------------------------------------------------------------------------------------------------------------

first_entry : (entries others : List Entry) (level : Level) → entries ≡ LevelEntry level ∷ others →
    level_entry entries 1 ≡ Some 0
first_entry entries others level is = rw is refl

pub first_level_is_start : FirstLevelIsStart
first_level_is_start text read level others is begins =
    ap (option_and_then (script_at_level 1)) is
    ∙ ap (option_map (script_at read)) (first_entry read.entries others level begins)
    ∙ sym (ap (option_map (λ (found : Game). script_at found 0)) is)

pub answers_from_start : AnswersFromStart
answers_from_start text told (Ends ending) is = is
answers_from_start text told (Refuses fault) is = is
answers_from_start text told WantsMemory is = is
answers_from_start text told CannotRead is = is
answers_from_start text told CannotWrite is = is

-- what the answer says of the text and the level
true_of : (text : List ℕ) (level : ℕ) (told : Told) (answer : LevelAnswer) → AnswersFromLevel text level told answer →
    IsTrueOfLevel text level answer
true_of text level told (Plays (Ends ending)) (script, found, right) = (script, found)
true_of text level told (Plays (Refuses fault)) right = right.is_first
true_of text level told (Plays WantsMemory) right = tt
true_of text level told (Plays CannotRead) (script, found, right) = (script, found)
true_of text level told (Plays CannotWrite) (script, found, right) = (script, found)
true_of text level told (LacksLevel count) right = right.lacks

pub answers_are_true_of_levels : AnswersAreTrueOfLevels
answers_are_true_of_levels text level reader_before reader_after writer_before writer_after answer right =
    true_of text level right.told answer right.answers
