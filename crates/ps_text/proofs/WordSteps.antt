-- The words from a place of a line on, a byte further.
use Rattle.std.proofs.Common.{◌≡◌, ℕ, ◌+◌, ◌<◌, ◌==◌, true, false, Some, None, List, [], ◌∷◌, length, drop, get_or}
use Rattle.std.proofs.Common.{refl, arith, add-one, drop-cons}
use Rattle.std.proofs.lemmas.Bool.Decides.{nat_tests}
use Rattle.std.proofs.lemmas.List.{drop_all}
use Rattle.std.proofs.lemmas.Bool.{or_parts}
use Rattle.ps_model.specs.declared.texts.Cut.{Cut}
use Rattle.ps_model.specs.declared.texts.Cut.TheVariants.{Blanks, Legend, Layers, Rule}
use Rattle.ps_model.specs.text.Words.{is_blank, parts_words, stands_alone, words_from}

-- a byte that parts words is read past
pub past_parting_step : (cut : Cut) (line : List ℕ) (at : ℕ) → at < length line →
    parts_words cut (get_or line at 0) ≡ true →
    words_from cut at None (drop at line) ≡ words_from cut (at + 1) None (drop (at + 1) line)
past_parting_step cut line at l h = rw (add-one, drop-cons line at 0 l, words_from, h) refl

-- a run begins at a byte that is in one
pub run_begins : (cut : Cut) (line : List ℕ) (at : ℕ) → at < length line → parts_words cut (get_or line at 0) ≡ false →
    stands_alone cut (get_or line at 0) ≡ false →
    words_from cut at None (drop at line) ≡ words_from cut (at + 1) (Some at) (drop (at + 1) line)
run_begins cut line at l h a = rw (add-one, drop-cons line at 0 l, words_from, h, a) refl

-- and goes on with the next
pub run_goes_on : (cut : Cut) (line : List ℕ) (start at : ℕ) → at < length line →
    parts_words cut (get_or line at 0) ≡ false → stands_alone cut (get_or line at 0) ≡ false →
    words_from cut at (Some start) (drop at line) ≡ words_from cut (at + 1) (Some start) (drop (at + 1) line)
run_goes_on cut line start at l h a = rw (add-one, drop-cons line at 0 l, words_from, h, a) refl

-- it ends where a byte parts words
pub run_ends_at_parting : (cut : Cut) (line : List ℕ) (start at : ℕ) → at < length line →
    parts_words cut (get_or line at 0) ≡ true →
    words_from cut at (Some start) (drop at line) ≡ (start, at) ∷ words_from cut at None (drop at line)
run_ends_at_parting cut line start at l h = rw (drop-cons line at 0 l, words_from, h) refl

-- or is a word by itself
pub run_ends_at_word : (cut : Cut) (line : List ℕ) (start at : ℕ) → at < length line →
    parts_words cut (get_or line at 0) ≡ false → stands_alone cut (get_or line at 0) ≡ true →
    words_from cut at (Some start) (drop at line) ≡ (start, at) ∷ words_from cut at None (drop at line)
run_ends_at_word cut line start at l h a = rw (drop-cons line at 0 l, words_from, h, a) refl

-- or with the line
pub run_ends_with_line : (cut : Cut) (line : List ℕ) (start : ℕ) →
    words_from cut (length line) (Some start) (drop (length line) line) ≡ (start, length line) ∷ words_from cut
    (length line) None (drop (length line) line)
run_ends_with_line cut line start = let e : drop (length line) line ≡ [] = drop_all (length line) line (omega arith) in
    rw e refl

-- a byte that is a word by itself
pub word_alone : (cut : Cut) (line : List ℕ) (at : ℕ) → at < length line → parts_words cut (get_or line at 0) ≡ false →
    stands_alone cut (get_or line at 0) ≡ true →
    words_from cut at None (drop at line) ≡ (at, at + 1) ∷ words_from cut (at + 1) None (drop (at + 1) line)
word_alone cut line at l h a = rw (add-one, drop-cons line at 0 l, words_from, h, a) refl

-- no word at the end
pub no_word : (cut : Cut) (line : List ℕ) → words_from cut (length line) None (drop (length line) line) ≡ []
no_word cut line = let e : drop (length line) line ≡ [] = drop_all (length line) line (omega arith) in rw e refl

-- bytes that part words or are words are ASCII
pub parting_is_ascii : (cut : Cut) (byte : ℕ) → parts_words cut byte ≡ true → byte < 128
parting_is_ascii Blanks byte h = grind (arith, nat_tests)
parting_is_ascii Legend byte h = grind (arith, nat_tests)
parting_is_ascii Layers byte h = grind (arith, nat_tests)
parting_is_ascii Rule byte h = grind (arith, nat_tests)

pub alone_is_ascii : (cut : Cut) (byte : ℕ) → stands_alone cut byte ≡ true → byte < 128
alone_is_ascii Blanks byte h = grind (arith, nat_tests)
alone_is_ascii Legend byte h = grind (arith, nat_tests)
alone_is_ascii Layers byte h = grind (arith, nat_tests)
alone_is_ascii Rule byte h = grind (arith, nat_tests)

-- a byte that parts no words is no blank
pub no_parting_no_blank : (cut : Cut) (byte : ℕ) → parts_words cut byte ≡ false → is_blank byte ≡ false
no_parting_no_blank Blanks byte h = h
no_parting_no_blank Legend byte h = h
no_parting_no_blank Layers byte h = (or_parts (is_blank byte) (byte == 44) h).0
no_parting_no_blank Rule byte h = h
