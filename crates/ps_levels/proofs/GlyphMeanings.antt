-- The meanings of the first characters.
use Rattle.std.proofs.Common.{◌≡◌, ℕ, ◌+◌, ◌<◌, List, [], ◌∷◌, ◌++◌, Option, None, map, length, get_or, sym, ap}
use Rattle.std.proofs.Common.{◌∙◌, arith}
use Rattle.std.specs.Borrow.{Bor}
use Rattle.std.specs.List.{range_with_len}
use Rattle.std.proofs.lemmas.List.{length-map, get_or-map, map-append}
use Rattle.std.proofs.lemmas.List.FromFn.{map-range_with_len_more, length-map-range_with_len, get_or-map-range_with_len}
use Rattle.ps_model.specs.names.Names as model
use Rattle.ps_model.specs.session.LevelFaults.{character_meaning}
use Rattle.ps_names.specs.declared.meaning.Meaning.{Meaning}
use Rattle.ps_levels.specs.Cells.{meaning_seen, meanings_shown}

-- one character more
pub meanings-more : (names : model.Names) (found longer : List (Option (Bor Meaning))) (code : ℕ)
    (meaning : Option (Bor Meaning)) → meanings_shown found ≡ map (character_meaning names) (range_with_len 0 code) →
    longer ≡ found ++ meaning ∷ [] → meaning_seen meaning ≡ character_meaning names code →
    meanings_shown longer ≡ map (character_meaning names) (range_with_len 0 (code + 1))
meanings-more names found longer code meaning so l e =
    ap meanings_shown l ∙ map-append meaning_seen found (meaning ∷ [])
    ∙ ap (λ (ms : List (Option model.Meaning)). ms ++ meaning_seen meaning ∷ []) so
    ∙ ap (λ (m : Option model.Meaning). map (character_meaning names) (range_with_len 0 code) ++ m ∷ []) e
    ∙ sym (map-range_with_len_more (character_meaning names) 0 code code (omega arith))

-- as many as there are
pub meanings-counted : (names : model.Names) (found : List (Option (Bor Meaning))) (code : ℕ) →
    meanings_shown found ≡ map (character_meaning names) (range_with_len 0 code) →
    meanings_shown found ≡ map (character_meaning names) (range_with_len 0 (length found))
meanings-counted names found code so =
    let many : length found ≡ code = sym (length-map found meaning_seen) ∙ ap length so
    ∙ length-map-range_with_len (character_meaning names) 0 code in
    so ∙ ap (λ (n : ℕ). map (character_meaning names) (range_with_len 0 n)) (sym many)

-- one of them
pub meaning-at : (names : model.Names) (found : List (Option (Bor Meaning))) (code : ℕ) (d : Option (Bor Meaning)) →
    meanings_shown found ≡ map (character_meaning names) (range_with_len 0 (length found)) → code < length found →
    meaning_seen (get_or found code d) ≡ character_meaning names code
meaning-at names found code d so below =
    sym (get_or-map meaning_seen found code d None below)
    ∙ ap (λ (ms : List (Option model.Meaning)). get_or ms code None) so
    ∙ get_or-map-range_with_len (character_meaning names) 0 (length found) code code None below (omega arith)
