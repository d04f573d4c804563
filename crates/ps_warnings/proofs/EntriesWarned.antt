-- Warnings of entries, entry by entry.
use Rattle.std.proofs.Common.{◌≡◌, ◌∙◌, ◌++◌, ◌≤◌, ℕ, zero, suc, List, [], ◌∷◌, length, drop, map, min, refl}
use Rattle.std.proofs.Common.{sym, ap, arith}
use Rattle.std.specs.List.{flat_map}
use Rattle.std.proofs.lemmas.List.{append-nil}
use Rattle.ps_model.specs.names.Names.{Names}
use Rattle.ps_model.specs.session.LevelLines.{EntryLines, entry_of_lines}
use Rattle.ps_levels.specs.EntriesShown.{entries_shown}
use Rattle.ps_levels.specs.declared.levels.Entry.{Entry}
use Rattle.ps_warnings.specs.declared.kinds.Warning.{Warning}
use Rattle.ps_warnings.specs.LevelStarts.{number_of}
use Rattle.ps_warnings.specs.LevelWarnings.{warnings_at, warnings_of_entry, warnings_of_lines}

-- past all entries, or all numbers
none : (names : Names) (numbers : List ℕ) → warnings_at names numbers [] ≡ []
none names [] = refl
none names (number ∷ numbers) = refl

past : (names : Names) (numbers : List ℕ) (entries : List Entry) (at : ℕ) →
    min (length numbers) (length entries) ≤ at →
    warnings_at names (drop at numbers) (entries_shown (drop at entries)) ≡ []
past names [] entries zero end = refl
past names (number ∷ numbers) [] zero end = refl
past names (number ∷ numbers) (entry ∷ entries) zero end = absurd (omega arith)
past names [] entries (suc at) end = refl
past names (number ∷ numbers) [] (suc at) end = none names (drop at numbers)
past names (number ∷ numbers) (entry ∷ entries) (suc at) end = past names numbers entries at (omega arith)

pub all_warned : (names : Names) (numbers : List ℕ) (entries : List Entry) (at fewer : ℕ) (told whole : List Warning) →
    fewer ≡ min (length numbers) (length entries) → at ≡ fewer →
    told ++ warnings_at names (drop at numbers) (entries_shown (drop at entries)) ≡ whole → told ≡ whole
all_warned names numbers entries at fewer told whole is all so_far =
    sym (ap (λ (more : List Warning). told ++ more) (past names numbers entries at (omega arith)) ∙ append-nil told)
    ∙ so_far

-- entries of lines, at the numbers of these
pub warned_alike : (names : Names) (entries : List EntryLines) →
    warnings_at names (map number_of entries) (map (entry_of_lines names) entries)
    ≡ flat_map (warnings_of_lines names) entries
warned_alike names [] = refl
warned_alike names (entry ∷ entries) =
    ap (λ (more : List Warning). warnings_of_entry names (number_of entry) (entry_of_lines names entry) ++ more)
    (warned_alike names entries)
