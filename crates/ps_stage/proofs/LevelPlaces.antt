-- The place of a level, looked for from the first entry on.
use Rattle.std.proofs.Common.{◌≡◌, ◌≢◌, ◌∙◌, ℕ, suc, ◌+◌, ◌<◌, ◌≤◌, true, Option, Some, None, List, [], ◌∷◌, filter}
use Rattle.std.proofs.Common.{length, slice_get, refl, sym, ap, arith}
use Rattle.ps_model.specs.session.LevelLines.{Entry as Meant, LevelEntry, MessageEntry}
use Rattle.ps_model.specs.session.Sessions.{is_level}
use Rattle.ps_model.specs.game.LevelRuns.{is_level_found, level_entry}
use Rattle.ps_laws.proofs.sessions.LevelNumbers.{found_numbered, level_within, levels_before, none_before}
use Rattle.ps_laws.proofs.sessions.LevelNumbers.{numbered_found, one_before}

-- an entry is counted, if it is a level
pub counted_at : (entries : List Meant) (at : ℕ) (entry : Meant) → slice_get entries at ≡ Some entry →
    levels_before entries (suc at) ≡ levels_before entries at + length (filter is_level (entry ∷ []))
counted_at entries at (MessageEntry text) is =
    let same = none_before entries at (ap is_level_found is) in omega (arith, same)
counted_at entries at (LevelEntry level) is =
    let more = one_before entries at (ap is_level_found is) in omega (arith, more)

-- the level isn't one of the entries passed by
abbrev pub IsBeyond : List Meant → ℕ → ℕ → Type 0
IsBeyond entries level at = (entry : ℕ) → level_entry entries level ≡ Some entry → at ≤ entry

-- behind all entries there is none
lacked_if : (entries : List Meant) (level at : ℕ) (found : Option ℕ) → level_entry entries level ≡ found →
    length entries ≤ at → IsBeyond entries level at → None ≡ found
lacked_if entries level at None is end beyond = refl
lacked_if entries level at (Some entry) is end beyond =
    let past : at ≤ entry = beyond entry is in
    let within : entry < length entries = level_within entries entry (found_numbered entries level entry is).0 in
    absurd (omega (arith, past, within, end))

pub lacked : (entries : List Meant) (level at : ℕ) → length entries ≤ at → IsBeyond entries level at →
    None ≡ level_entry entries level
lacked entries level at end beyond = lacked_if entries level at (level_entry entries level) refl end beyond

-- an entry that isn't that level is passed by
pub one_more : (entries : List Meant) (level at : ℕ) → IsBeyond entries level at →
    (is_level_found (slice_get entries at) ≡ true → levels_before entries (suc at) ≢ level) →
    IsBeyond entries level (at + 1)
one_more entries level at beyond other entry found =
    let past : at ≤ entry = beyond entry found in
    let is = found_numbered entries level entry found in
    let differs : at ≢ entry = λ same.
    other (ap (λ (n : ℕ). is_level_found (slice_get entries n)) same ∙ is.0)
    (ap (λ (n : ℕ). levels_before entries (suc n)) same ∙ is.1) in
    omega (arith, past, differs)

-- a level with that number is found
pub found_at : (entries : List Meant) (level at : ℕ) → is_level_found (slice_get entries at) ≡ true →
    levels_before entries (suc at) ≡ level → Some at ≡ level_entry entries level
found_at entries level at is number = sym (ap (level_entry entries) (sym number) ∙ numbered_found entries at is)
