-- What is meant by the words after GAME, where levels are searched.
use Rattle.std.proofs.Common.{◌≡◌, ◌≢◌, ◌⊎◌, ◌<◌, ◌≤◌, ◌^◌, ℕ, inl, inr, List, [], ◌∷◌, Option, Some, None}
use Rattle.std.proofs.Common.{Bool, true, false, Bor, arith, get_or, is_some, length, refl}
use Rattle.std.specs.Prelude.{Err, Result}
use Rattle.std.specs.Str.Parse.{IsNumeral, ParsesUnsigned, digits_value, without_leading_plus}
use Rattle.clap.specs.Words.{Text}
use Rattle.ps_command.specs.Given.{AreWordsToSolve, IsNumber, texts_of}

-- where no word stands there is none
pub no_words : (level : Option ℕ) → AreWordsToSolve level [] level []
no_words (Some n) = (refl, refl)
no_words None = (refl, refl)

-- words that are several, or stand beside a level that is given, are files
pub words_kept : (level : Option ℕ) (words : List (Bor Text)) → (is_some level ≡ true) ⊎ (length words ≢ 1) →
    AreWordsToSolve level (texts_of words) level (texts_of words)
words_kept (Some n) words either = (refl, refl)
words_kept None [] either = (refl, refl)
words_kept None (w ∷ v ∷ words) either = (refl, refl)
words_kept None (w ∷ []) (inl some) = cc
words_kept None (w ∷ []) (inr several) = absurd (several refl)

-- one word alone is the number of a level
pub lone_level : (level : Option ℕ) (words : List (Bor Text)) (d : Bor Text) (n : ℕ) → is_some level ≡ false →
    length words ≡ 1 → IsNumber (get_or words 0 d).now n → 1 ≤ n → AreWordsToSolve level (texts_of words) (Some n) []
lone_level (Some m) words d n none one is from = cc
lone_level None [] d n none one is from = absurd (omega arith)
lone_level None (w ∷ []) d n none one is from = ((is, from), refl)
lone_level None (w ∷ v ∷ words) d n none one is from = absurd (omega arith)

-- or a file, where it is no such number
pub lone_file : {E : Type 0} (level : Option ℕ) (words : List (Bor Text)) (d : Bor Text) (r : Result ℕ E) (e : E) →
    is_some level ≡ false → length words ≡ 1 → ParsesUnsigned 64 10 (get_or words 0 d).now r → r ≡ Err e →
    AreWordsToSolve level (texts_of words) level (texts_of words)
lone_file (Some m) words d r e none one parses is = cc
lone_file None [] d r e none one parses is = absurd (omega arith)
lone_file None (w ∷ []) d r e none one parses is = (rw is at parses, refl)
lone_file None (w ∷ v ∷ words) d r e none one parses is = absurd (omega arith)

-- what is meant by such words, case by case
pub ruleset words_meant = (no_words, words_kept, lone_level, lone_file)
