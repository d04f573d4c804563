-- Where a line has one of some words, which are ASCII.
use Rattle.std.proofs.Common.{◌≡◌, ℕ, zero, suc, ◌+◌, ◌-◌, ◌<◌, ◌≤◌, inl, inr, Bool, true, false, not, Option, Some}
use Rattle.std.proofs.Common.{None, List, [], ◌∷◌, length, get_or, codes, refl, ap, arith}
use Rattle.std.specs.Prelude.{slice_range, nat_lt, IfSome}
use Rattle.std.specs.Char.{to_ascii_lowercase}
use Rattle.std.specs.List.{list_all, list_any, prefix_len}
use Rattle.std.specs.Str.{bytes_eq}
use Rattle.std.proofs.lemmas.Bool.Decides.{nat_tests}
use Rattle.std.proofs.lemmas.Grind.{common_steps}
use Rattle.std.proofs.lemmas.List.{get_or-map}
use Rattle.std.proofs.lemmas.Slice.Eq.{bytes_eq-Decides}
use Rattle.std.proofs.lemmas.Bool.{and_parts, or_cases, cases_lt}
use Rattle.ps_model.specs.text.Lines.{folded, is_word, behind_arrow}
use Rattle.ps_text.specs.WordRanges.{IsWordRange}
use Rattle.ps_text.specs.declared.scan.ByteRange.{ByteRange}
use Rattle.ps_text.specs.TakenRanges.{IsTextStart}

abbrev pub is_ascii_byte : ℕ → Bool
is_ascii_byte byte = nat_lt byte 128

-- folding leaves no ASCII of what isn't
pub high_stays : (byte : ℕ) → 128 ≤ byte → to_ascii_lowercase byte ≡ byte
high_stays byte h = grind (arith, nat_tests)

low_before : (byte : ℕ) → to_ascii_lowercase byte < 128 → byte < 128
low_before byte h = elim (cases_lt byte 128) [
  | inl low ↦ low
  | inr high ↦ absurd (omega (arith, high_stays byte high))
]

all_low : (bytes : List ℕ) (i : ℕ) → list_all is_ascii_byte bytes ≡ true → get_or bytes i 0 < 128
all_low [] i h = omega arith
all_low (byte ∷ bytes) zero h = let first = (and_parts (is_ascii_byte byte) (list_all is_ascii_byte bytes) h).0 in
    grind (arith, nat_tests)
all_low (byte ∷ bytes) (suc i) h = all_low bytes i (and_parts (is_ascii_byte byte) (list_all is_ascii_byte bytes) h).1

same_bytes : (a b : List ℕ) → bytes_eq a b ≡ true → a ≡ b
same_bytes a b h = (bytes_eq-Decides a b).0 h

-- the last byte of a word that is one of these
last_low : (line name : List ℕ) (start end : ℕ) → list_all is_ascii_byte name ≡ true →
    bytes_eq (folded (slice_range line start end)) name ≡ true → start < end → end ≤ length line →
    get_or line (end - 1) 0 < 128
last_low line name start end a h l m =
    let there : end - 1 - start < length (slice_range line start end) = grind (arith, common_steps) in
    let read : get_or (slice_range line start end) (end - 1 - start) 0 ≡ get_or line (end - 1) 0 =
    grind (arith, common_steps) in
    let lower : get_or (folded (slice_range line start end)) (end - 1 - start) 0 ≡ to_ascii_lowercase
    (get_or (slice_range line start end) (end - 1 - start) 0) =
    get_or-map to_ascii_lowercase (slice_range line start end) (end - 1 - start) 0 0 there in
    let same : get_or (folded (slice_range line start end)) (end - 1 - start) 0 ≡ get_or name (end - 1 - start) 0 =
    ap (λ (bs : List ℕ). get_or bs (end - 1 - start) 0) (same_bytes _ name h) in
    let low : get_or name (end - 1 - start) 0 < 128 = all_low name (end - 1 - start) a in
    low_before (get_or line (end - 1) 0) (rw (← read, ← lower, same) low)

any_low : (line : List ℕ) (start end : ℕ) (names : List (List ℕ)) → list_all (list_all is_ascii_byte) names ≡ true →
    list_any (bytes_eq (folded (slice_range line start end))) names ≡ true → start < end → end ≤ length line →
    get_or line (end - 1) 0 < 128
any_low line start end [] a h l m = absurd (cc h)
any_low line start end (name ∷ names) a h l m =
    let parts = and_parts (list_all is_ascii_byte name) (list_all (list_all is_ascii_byte) names) a in
    elim (or_cases (bytes_eq (folded (slice_range line start end)) name)
    (list_any (bytes_eq (folded (slice_range line start end))) names) h) [
      | inl here ↦ last_low line name start end parts.0 here l m
      | inr later ↦ any_low line start end names parts.1 later l m
    ]

-- a text may begin after a word that is one of these
pub text_behind_word : (line : List ℕ) (from : ℕ) (names : List (List ℕ)) (range : ByteRange) →
    IsWordRange line from range → list_all (list_all is_ascii_byte) names ≡ true →
    list_any (bytes_eq (folded (slice_range line range.start range.end))) names ≡ true → IsTextStart line range.end
text_behind_word line from names range word a h =
    record {
      some = omega (arith, word.holds);
      within = word.end.0;
      ascii = any_low line range.start range.end names a h word.holds word.end.0;
      solid = word.solid (range.end - 1) (omega (arith, word.holds)) (omega (arith, word.holds));
    }

-- a word after a place is one after the line's start
pub from_start : (line : List ℕ) (from : ℕ) (range : ByteRange) → IsWordRange line from range → IsWordRange line 0 range
from_start line from range word = record {
  behind = omega arith;
  holds = word.holds;
  start = word.start;
  end =
      word.end;
  solid = word.solid;
}

pub found_from_start : (line : List ℕ) (from : ℕ) (found : Option ByteRange) → IfSome found (IsWordRange line from) →
    IfSome found (IsWordRange line 0)
found_from_start line from None h = h
found_from_start line from (Some range) h = from_start line from range h

-- a word that is no `->` is read past
pub past_word : (line : List ℕ) (word : ℕ × ℕ) (words : List (ℕ × ℕ)) → is_word line (codes "->" ∷ []) word ≡ false →
    behind_arrow line (word ∷ words) ≡ behind_arrow line words
past_word line word words h = rw h (let one : suc
    (1 + prefix_len (λ other. not (is_word line (codes "->" ∷ []) other)) words) ≡ suc
    (suc (prefix_len (λ other. not (is_word line (codes "->" ∷ []) other)) words)) = omega arith in rw one refl)
