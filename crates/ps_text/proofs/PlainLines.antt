-- A line with blanks for its comments: it is still a text, as long as it was, and each byte that is no blank is the
-- line's own.
use Rattle.std.proofs.Common.{◌≡◌, ℕ, zero, suc, ◌<◌, ◌≤◌, ◌==◌, ◌⊎◌, inl, inr, ◌||◌, if◌then◌else◌, Bool, true, false}
use Rattle.std.proofs.Common.{List, [], ◌∷◌, ◌++◌, length, get_or, replicate, refl, ap, sym, subst, arith}
use Rattle.std.specs.Prelude.{nat_eq, nat_lt}
use Rattle.std.specs.Str.{IsUtf8}
use Rattle.std.proofs.Math.Utf8.{scalar, scalars, encode, encodes}
use Rattle.std.proofs.lemmas.Bool.Decides.{nat_tests}
use Rattle.std.proofs.lemmas.List.{append-nil}
use Rattle.std.proofs.lemmas.Str.{IsUtf8-nil, IsUtf8-append, IsUtf8-encode, IsUtf8-from_ascii, encode_ascii, inside_one}
use Rattle.std.proofs.lemmas.Bool.{and_parts, cases_lt}
use Rattle.ps_model.specs.text.Words.{is_blank}
use Rattle.ps_text.specs.PlainLines.{IsPlain}
use Rattle.ps_model.specs.text.Lines.{without_comments, depth_behind, in_comment}

-- the bytes are no ASCII
abbrev pub AreHigh : List ℕ → Type 0
AreHigh bytes = (i : ℕ) → i < length bytes → 128 ≤ get_or bytes i 0

rest_high : (byte : ℕ) (bytes : List ℕ) → AreHigh (byte ∷ bytes) → AreHigh bytes
rest_high byte bytes h i l = h (suc i) (omega arith)

first_high : (byte : ℕ) (bytes : List ℕ) → AreHigh (byte ∷ bytes) → 128 ≤ byte
first_high byte bytes h = h 0 (omega arith)

-- such bytes open and close no comment
same_depth : (depth byte : ℕ) → 128 ≤ byte → depth_behind depth byte ≡ depth
same_depth depth byte h =
    let opening : nat_eq byte 40 ≡ false = grind (arith, nat_tests) in
    let closing : nat_eq byte 41 ≡ false = grind (arith, nat_tests) in
    rw (depth_behind, opening, closing) refl

-- outside comments they stay
high_kept : (bytes rest : List ℕ) → AreHigh bytes →
    without_comments 0 (bytes ++ rest) ≡ bytes ++ without_comments 0 rest
high_kept [] rest h = refl
high_kept (byte ∷ bytes) rest h =
    let opening : nat_eq byte 40 ≡ false = (let high : 128 ≤ byte = first_high byte bytes h in
    grind (arith, nat_tests)) in
    rw (same_depth 0 byte (first_high byte bytes h), opening)
    (ap (λ (bs : List ℕ). byte ∷ bs) (high_kept bytes rest (rest_high byte bytes h)))

-- in comments they are blanks
high_blank : (depth : ℕ) (bytes rest : List ℕ) → AreHigh bytes → nat_lt 0 depth ≡ true →
    without_comments depth (bytes ++ rest) ≡ replicate (length bytes) 32 ++ without_comments depth rest
high_blank depth [] rest h d = refl
high_blank depth (byte ∷ bytes) rest h d =
    rw (same_depth depth byte (first_high byte bytes h), d)
    (ap (λ (bs : List ℕ). 32 ∷ bs) (high_blank depth bytes rest (rest_high byte bytes h) d))

-- a character outside comments that opens none, and all in comments: they stand for themselves or for blanks
blanks_utf8 : (n : ℕ) → IsUtf8 (replicate n 32)
blanks_utf8 zero = IsUtf8-nil
blanks_utf8 (suc n) = IsUtf8-append (32 ∷ []) (replicate n 32) (IsUtf8-from_ascii (32 ∷ []) (λ i. blank_ascii i))
    (blanks_utf8 n)
  where
    blank_ascii : (i : ℕ) → get_or (32 ∷ []) i 0 < 128
    blank_ascii zero = omega arith
    blank_ascii (suc i) = omega arith

ascii_one : (byte : ℕ) → byte < 128 → IsUtf8 (byte ∷ [])
ascii_one byte h = IsUtf8-from_ascii (byte ∷ []) (λ i. at i)
  where
    at : (i : ℕ) → get_or (byte ∷ []) i 0 < 128
    at zero = h
    at (suc i) = omega arith

plain_ascii : (test : Bool) (byte : ℕ) → byte < 128 → (if test then 32 else byte) < 128
plain_ascii true byte h = omega arith
plain_ascii false byte h = h

in_range : (place : ℕ) (depth : ℕ) → (nat_lt 0 depth ≡ true) ⊎ (depth ≡ 0)
in_range place zero = inr refl
in_range place (suc depth) = inl (grind (arith, nat_tests))

high_code : (c : ℕ) → 128 ≤ c → AreHigh (encode c)
high_code c h i l = elim (cases_lt (get_or (encode c) i 0) 128) [
  | inl low ↦ let same : c ≡ get_or (encode c) i 0 =
      inside_one c [] (encode c) i (sym (append-nil (encode c))) l low in absurd (omega arith)
  | inr high ↦ high
]

-- one character, and what follows it
one_more : (c depth : ℕ) (rest : List ℕ) → scalar c ≡ true → ((depth' : ℕ) → IsUtf8 (without_comments depth' rest)) →
    IsUtf8 (without_comments depth (encode c ++ rest))
one_more c depth rest s next = elim (cases_lt c 128) [
  | inl low ↦
      rw (encode_ascii c low) (IsUtf8-append (_ ∷ []) (without_comments (depth_behind depth c) rest)
      (ascii_one _ (plain_ascii (in_comment depth c) c low)) (next (depth_behind depth c)))
  | inr high ↦ elim (in_range 0 depth) [
    | inl within ↦ rw (high_blank depth (encode c) rest (high_code c high) within)
        (IsUtf8-append (replicate (length (encode c)) 32) (without_comments depth rest)
        (blanks_utf8 (length (encode c))) (next depth))
    | inr none ↦ rw (none, high_kept (encode c) rest (high_code c high))
        (IsUtf8-append (encode c) (without_comments 0 rest) (IsUtf8-encode c s) (next 0))
  ]
]

characters_plain : (cs : List ℕ) (depth : ℕ) → scalars cs ≡ true → IsUtf8 (without_comments depth (encodes cs))
characters_plain [] depth s = IsUtf8-nil
characters_plain (c ∷ cs) depth s = let parts = and_parts (scalar c) (scalars cs) s in
    one_more c depth (encodes cs) parts.0 (λ depth'. characters_plain cs depth' parts.1)

-- the line is still a text
pub plain_utf8 : (line : List ℕ) (depth : ℕ) → IsUtf8 line → IsUtf8 (without_comments depth line)
plain_utf8 line depth u = subst (λ (bs : List ℕ).
    IsUtf8 (without_comments depth bs)) u.1.1 (characters_plain u.0 depth u.1.0)

length_plain : (line : List ℕ) (depth : ℕ) → length (without_comments depth line) ≡ length line
length_plain [] depth = refl
length_plain (byte ∷ line) depth = ap suc (length_plain line (depth_behind depth byte))

kept_byte : (test : Bool) (byte : ℕ) → is_blank (if test then 32 else byte) ≡ false → (if test then 32 else byte) ≡ byte
kept_byte true byte h = absurd (cc h)
kept_byte false byte h = refl

shown_plain : (line : List ℕ) (depth i : ℕ) → is_blank (get_or (without_comments depth line) i 0) ≡ false →
    get_or (without_comments depth line) i 0 ≡ get_or line i 0
shown_plain [] depth i h = refl
shown_plain (byte ∷ line) depth zero h = kept_byte (in_comment depth byte) byte h
shown_plain (byte ∷ line) depth (suc i) h = shown_plain line (depth_behind depth byte) i h

opening_byte : (before : Bool) (byte : ℕ) → byte ≡ 40 → (if before || byte == 40 then 32 else byte) ≡ 32
opening_byte true byte h = refl
opening_byte false byte h = rw h refl

opening_plain : (line : List ℕ) (depth i : ℕ) → get_or line i 0 ≡ 40 → get_or (without_comments depth line) i 0 ≡ 32
opening_plain [] depth i h = absurd (omega (arith, h))
opening_plain (byte ∷ line) depth zero h = opening_byte (nat_lt 0 depth) byte h
opening_plain (byte ∷ line) depth (suc i) h = opening_plain line (depth_behind depth byte) i h

pub plain_line_is : (line : List ℕ) (depth : ℕ) → IsPlain line (without_comments depth line)
plain_line_is line depth = record {
  same = length_plain line depth;
  shown = shown_plain line depth;
  opening =
      opening_plain line depth;
}
