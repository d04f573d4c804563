-- A line with a word has characters.
use Rattle.std.proofs.Common.{◌≡◌, ℕ, suc, ◌+◌, ◌<◌, ◌≤◌, Bool, true, false, ◌&&◌, cond, List, [], ◌∷◌, ◌++◌, length}
use Rattle.std.proofs.Common.{drop, reverse, refl, sym, ap, subst, arith}
use Rattle.std.specs.List.{prefix_len, list_all}
use Rattle.std.specs.Str.{IsUtf8, chars}
use Rattle.std.proofs.lemmas.List.{reverse-append, length-append}
use Rattle.std.proofs.lemmas.Str.{encodes-chars}
use Rattle.std.proofs.Math.Utf8.{encodes}
use Rattle.std.proofs.lemmas.Grind.{common_steps}
use Rattle.ps_model.specs.text.Words.{is_blank}
use Rattle.ps_model.specs.text.Lines.{without_blank_end}
use Rattle.ps_text.proofs.BlankEnds.{off_front, none_off}

-- bytes that begin with no blank
pub record BeginsWritten (bytes : List ℕ) : Type 0 where
  pub first : ℕ
  pub others : List ℕ
  pub is : bytes ≡ first ∷ others
  pub written : is_blank first ≡ false

begins_by : (byte : ℕ) (bytes : List ℕ) (blank : Bool) → is_blank byte ≡ blank →
    (list_all is_blank bytes ≡ false → BeginsWritten (drop (prefix_len is_blank bytes) bytes)) →
    blank && list_all is_blank bytes ≡ false →
    BeginsWritten (drop (prefix_len is_blank (byte ∷ bytes)) (byte ∷ bytes))
begins_by byte bytes true b rest e = subst BeginsWritten (sym (off_front byte bytes b)) (rest e)
begins_by byte bytes false b rest e = record { first = byte; others = bytes; is = none_off byte bytes b; written = b }

begins : (bytes : List ℕ) → list_all is_blank bytes ≡ false → BeginsWritten (drop (prefix_len is_blank bytes) bytes)
begins [] e = absurd (let f = e in cc)
begins (byte ∷ bytes) e = begins_by byte bytes (is_blank byte) refl (begins bytes) e

few_blanks : (before : List ℕ) (byte : ℕ) → is_blank byte ≡ false →
    prefix_len is_blank (before ++ byte ∷ []) ≤ length before
few_blanks [] byte h = grind (arith, common_steps)
few_blanks (b ∷ before) byte h = by_first (is_blank b) (prefix_len is_blank (before ++ byte ∷ [])) (length before)
    (few_blanks before byte h)
  where
    by_first : (blank : Bool) (n m : ℕ) → n ≤ m → cond blank (1 + n) 0 ≤ suc m
    by_first true n m l = omega arith
    by_first false n m l = omega arith

-- blanks at the end leave what isn't blank
some_left : (byte : ℕ) (bytes : List ℕ) → is_blank byte ≡ false → 0 < length (without_blank_end (byte ∷ bytes))
some_left byte bytes h =
    let turned : reverse (byte ∷ bytes) ≡ reverse bytes ++ byte ∷ [] = reverse-append (byte ∷ []) bytes in
    let few : prefix_len is_blank (reverse bytes ++ byte ∷ []) ≤ length (reverse bytes) =
    few_blanks (reverse bytes) byte h in
    let long : length (reverse bytes ++ byte ∷ []) ≡ length (reverse bytes) + 1 =
    length-append (reverse bytes) (byte ∷ []) in
    rw turned (grind (arith, common_steps))

no_bytes : (bytes characters : List ℕ) → encodes characters ≡ bytes → 0 < length bytes → 0 < length characters
no_bytes bytes [] e h = let none : bytes ≡ [] = sym e in absurd (omega (arith, ap length none))
no_bytes bytes (c ∷ characters) e h = omega arith

-- the characters of a line that isn't blank
pub some-characters : (bytes text : List ℕ) → IsUtf8 text →
    text ≡ without_blank_end (drop (prefix_len is_blank bytes) bytes) → list_all is_blank bytes ≡ false →
    0 < length (chars text)
some-characters bytes text utf8 e h =
    let b : BeginsWritten (drop (prefix_len is_blank bytes) bytes) = begins bytes h in
    let some : 0 < length text = rw (e, b.is) (some_left b.first b.others b.written) in
    no_bytes text (chars text) (encodes-chars text utf8) some
