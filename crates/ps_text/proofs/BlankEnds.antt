-- Blanks at the end of a line, from its last byte on.
use Rattle.std.proofs.Common.{◌≡◌, ℕ, suc, ◌+◌, ◌-◌, ◌<◌, ◌≤◌, true, false, List, [], ◌∷◌, ◌++◌, length, take, drop}
use Rattle.std.proofs.Common.{get_or, reverse, refl, sym, ◌∙◌, ap, arith}
use Rattle.std.specs.Prelude.{slice_range}
use Rattle.std.specs.List.{prefix_len}
use Rattle.std.proofs.lemmas.List.{reverse-append, reverse-reverse, get_or-drop, take-append-drop}
use Rattle.std.proofs.lemmas.Grind.{common_steps}
use Rattle.std.proofs.Math.Seq.{take-suc}
use Rattle.ps_model.specs.text.Words.{is_blank}
use Rattle.ps_model.specs.text.Lines.{without_blank_end}

-- the blanks in front
pub off_front : (byte : ℕ) (bytes : List ℕ) → is_blank byte ≡ true →
    drop (prefix_len is_blank (byte ∷ bytes)) (byte ∷ bytes) ≡ drop (prefix_len is_blank bytes) bytes
off_front byte bytes h =
    let one : prefix_len is_blank (byte ∷ bytes) ≡ suc (prefix_len is_blank bytes) = grind (arith, common_steps) in
    rw one refl

pub none_off : (byte : ℕ) (bytes : List ℕ) → is_blank byte ≡ false →
    drop (prefix_len is_blank (byte ∷ bytes)) (byte ∷ bytes) ≡ byte ∷ bytes
none_off byte bytes h =
    let none : prefix_len is_blank (byte ∷ bytes) ≡ 0 = grind (arith, common_steps) in
    rw none refl

-- a blank at the end is left out
pub blank_left_out : (bytes : List ℕ) (byte : ℕ) → is_blank byte ≡ true →
    without_blank_end (bytes ++ byte ∷ []) ≡ without_blank_end bytes
blank_left_out bytes byte h =
    let turned : reverse (bytes ++ byte ∷ []) ≡ byte ∷ reverse bytes = reverse-append bytes (byte ∷ []) in
    rw (turned) (ap reverse (off_front byte (reverse bytes) h))

-- any other byte isn't
pub other_kept : (bytes : List ℕ) (byte : ℕ) → is_blank byte ≡ false →
    without_blank_end (bytes ++ byte ∷ []) ≡ bytes ++ byte ∷ []
other_kept bytes byte h =
    let turned : reverse (bytes ++ byte ∷ []) ≡ byte ∷ reverse bytes = reverse-append bytes (byte ∷ []) in
    rw (turned) (ap reverse (none_off byte (reverse bytes) h) ∙ ap reverse (sym turned)
    ∙ reverse-reverse (bytes ++ byte ∷ []))

-- the last byte of a part of a line
pub last_byte : (line : List ℕ) (from end : ℕ) → from < end → end ≤ length line →
    slice_range line from end ≡ slice_range line from (end - 1) ++ get_or line (end - 1) 0 ∷ []
last_byte line from end h l =
    let size : end - from ≡ suc (end - 1 - from) = omega arith in
    let place : from + (end - 1 - from) ≡ end - 1 = omega arith in
    let there : end - 1 - from < length (drop from line) = grind (arith, common_steps) in
    let read : get_or (drop from line) (end - 1 - from) 0 ≡ get_or line (end - 1) 0 =
    get_or-drop from line (end - 1 - from) 0 ∙ ap (λ (n : ℕ). get_or line n 0) place in
    rw size (take-suc (drop from line) (end - 1 - from) 0 there
    ∙ ap (λ (byte : ℕ). take (end - 1 - from) (drop from line) ++ byte ∷ []) read)

-- a part that ends with a blank
pub one_blank_less : (line : List ℕ) (from end : ℕ) → from < end → end ≤ length line →
    is_blank (get_or line (end - 1) 0) ≡ true →
    without_blank_end (slice_range line from end) ≡ without_blank_end (slice_range line from (end - 1))
one_blank_less line from end h l b = ap without_blank_end (last_byte line from end h l)
    ∙ blank_left_out (slice_range line from (end - 1)) (get_or line (end - 1) 0) b

-- a part that ends with no blank
pub ends_here : (line : List ℕ) (from end : ℕ) → from < end → end ≤ length line →
    is_blank (get_or line (end - 1) 0) ≡ false → length (without_blank_end (slice_range line from end)) ≡ end - from
ends_here line from end h l b =
    let whole : without_blank_end (slice_range line from end) ≡ slice_range line from end =
    ap without_blank_end (last_byte line from end h l)
    ∙ other_kept (slice_range line from (end - 1)) (get_or line (end - 1) 0) b
    ∙ sym (last_byte line from end h l) in
    rw whole (grind (arith, common_steps))

front-of : (front rest : List ℕ) → take (length front) (front ++ rest) ≡ front
front-of [] rest = refl
front-of (byte ∷ front) rest = ap (λ (bytes : List ℕ). byte ∷ bytes) (front-of front rest)

-- bytes without the blanks at their end stand at their front
pub end-left-out : (bytes : List ℕ) → take (length (without_blank_end bytes)) bytes ≡ without_blank_end bytes
end-left-out bytes =
    let turned : List ℕ = reverse bytes in
    let blanks : ℕ = prefix_len is_blank turned in
    let split : bytes ≡ reverse (drop blanks turned) ++ reverse (take blanks turned) =
    sym (reverse-reverse bytes) ∙ ap reverse (sym (take-append-drop blanks turned))
    ∙ reverse-append (take blanks turned) (drop blanks turned) in
    ap (take (length (without_blank_end bytes))) split
    ∙ front-of (without_blank_end bytes) (reverse (take blanks turned))

-- the part of a line between its blanks
pub between-blanks : (line : List ℕ) (start end : ℕ) → start ≡ prefix_len is_blank line →
    end ≡ start + length (without_blank_end (drop start line))
    → slice_range line start end ≡ without_blank_end (drop (prefix_len is_blank line) line)
between-blanks line start end s e =
    let size : end - start ≡ length (without_blank_end (drop start line)) = omega arith in
    ap (λ (n : ℕ). take n (drop start line)) size ∙ end-left-out (drop start line)
    ∙ ap (λ (n : ℕ). without_blank_end (drop n line)) s
