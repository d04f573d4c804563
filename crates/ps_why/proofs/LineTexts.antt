-- The line that is shown stands between two line feeds.
use Rattle.std.proofs.Common.{◌≡◌, ◌∙◌, ◌+◌, ◌-◌, ◌==◌, ℕ, zero, suc, Bool, true, false, List, [], ◌∷◌, take, drop}
use Rattle.std.proofs.Common.{ap, arith, refl, subst, sym}
use Rattle.std.proofs.lemmas.Bool.Decides.{Decides-eqb, nat_tests}
use Rattle.std.proofs.lemmas.Slice.Eq.{starts_is}
use Rattle.std.specs.Prelude.{if◌then◌else◌, nat_eq, slice_index_or, slice_range}
use Rattle.std.specs.List.{slice_split, onto_first, starts_with}
use Rattle.ps_model.specs.text.Lines.{is_line_feed, mark_length}
use Rattle.ps_why.specs.Lines.{behind_feeds, line_end, line_start, line_text}

-- places, counted from any place -------------------------------------------------------------------------------------

end_step : (place byte : ℕ) (bytes : List ℕ) (feed : Bool) → is_line_feed byte ≡ feed →
    ((from : ℕ) → line_end from bytes ≡ from + line_end 0 bytes) →
    line_end place (byte ∷ bytes) ≡ place + line_end 0 (byte ∷ bytes)
end_step place byte bytes true is all = rw is (omega arith)
end_step place byte bytes false is all =
    let one : line_end 1 bytes ≡ 1 + line_end 0 bytes = all 1 in
    rw is (all (suc place) ∙ omega (arith, one))

end_from : (place : ℕ) (bytes : List ℕ) → line_end place bytes ≡ place + line_end 0 bytes
end_from place [] = omega arith
end_from place (byte ∷ bytes) = end_step place byte bytes _ refl (λ from. end_from from bytes)

behind_step : (place feeds byte : ℕ) (bytes : List ℕ) (none : Bool) → (feeds == 0) ≡ none →
    ((from count : ℕ) → behind_feeds from count bytes ≡ from + behind_feeds 0 count bytes) →
    behind_feeds place feeds (byte ∷ bytes) ≡ place + behind_feeds 0 feeds (byte ∷ bytes)
behind_step place feeds byte bytes true is all = rw is (omega arith)
behind_step place feeds byte bytes false is all =
    let left : ℕ = if is_line_feed byte then feeds - 1 else feeds in
    let one : behind_feeds 1 left bytes ≡ 1 + behind_feeds 0 left bytes = all 1 left in
    rw is (all (suc place) left ∙ omega (arith, one))

behind_from : (place feeds : ℕ) (bytes : List ℕ) → behind_feeds place feeds bytes ≡ place + behind_feeds 0 feeds bytes
behind_from place feeds [] = omega arith
behind_from place feeds (byte ∷ bytes) =
    behind_step place feeds byte bytes _ refl (λ from count. behind_from from count bytes)

-- parts ---------------------------------------------------------------------------------------------------------------

onto_zero : (byte : ℕ) (parts : List (List ℕ)) →
    slice_index_or (onto_first byte parts) 0 [] ≡ byte ∷ slice_index_or parts 0 []
onto_zero byte [] = refl
onto_zero byte (part ∷ parts) = refl

onto_suc : (byte number : ℕ) (parts : List (List ℕ)) →
    slice_index_or (onto_first byte parts) (suc number) [] ≡ slice_index_or parts (suc number) []
onto_suc byte number [] = refl
onto_suc byte number (part ∷ parts) = refl

-- the first line
first_step : (byte : ℕ) (bytes : List ℕ) (feed : Bool) → is_line_feed byte ≡ feed →
    take (line_end 0 bytes) bytes ≡ slice_index_or (slice_split is_line_feed bytes) 0 [] →
    take (line_end 0 (byte ∷ bytes)) (byte ∷ bytes)
    ≡ slice_index_or (slice_split is_line_feed (byte ∷ bytes)) 0 []
first_step byte bytes true is rest = rw is refl
first_step byte bytes false is rest =
    let one : line_end 1 bytes ≡ suc (line_end 0 bytes) = end_from 1 bytes ∙ omega arith in
    rw (is, one, onto_zero byte (slice_split is_line_feed bytes)) (ap (λ (line : List ℕ). byte ∷ line) rest)

first_line : (bytes : List ℕ) →
    take (line_end 0 bytes) bytes ≡ slice_index_or (slice_split is_line_feed bytes) 0 []
first_line [] = refl
first_line (byte ∷ bytes) = first_step byte bytes _ refl (first_line bytes)

-- a line further on
next_step : (feeds byte : ℕ) (bytes : List ℕ) (feed : Bool) → is_line_feed byte ≡ feed →
    ((count : ℕ) → take (line_end 0 (drop (behind_feeds 0 count bytes) bytes)) (drop (behind_feeds 0 count bytes) bytes)
    ≡ slice_index_or (slice_split is_line_feed bytes) count []) →
    take (line_end 0 (drop (behind_feeds 0 (suc feeds) (byte ∷ bytes)) (byte ∷ bytes)))
    (drop (behind_feeds 0 (suc feeds) (byte ∷ bytes)) (byte ∷ bytes))
    ≡ slice_index_or (slice_split is_line_feed (byte ∷ bytes)) (suc feeds) []
next_step feeds byte bytes true is all =
    let some : (suc feeds == 0) ≡ false = grind (arith, nat_tests) in
    let fewer : suc feeds - 1 ≡ feeds = omega arith in
    let place : behind_feeds 1 feeds bytes ≡ suc (behind_feeds 0 feeds bytes) =
    behind_from 1 feeds bytes ∙ omega arith in
    rw (is, some, fewer, place) (all feeds)
next_step feeds byte bytes false is all =
    let some : (suc feeds == 0) ≡ false = grind (arith, nat_tests) in
    let place : behind_feeds 1 (suc feeds) bytes ≡ suc (behind_feeds 0 (suc feeds) bytes) =
    behind_from 1 (suc feeds) bytes ∙ omega arith in
    rw (is, some, place, onto_suc byte feeds (slice_split is_line_feed bytes)) (all (suc feeds))

zero_place : (bytes : List ℕ) → behind_feeds 0 0 bytes ≡ 0
zero_place [] = refl
zero_place (byte ∷ bytes) = refl

line_of : (feeds : ℕ) (bytes : List ℕ) →
    take (line_end 0 (drop (behind_feeds 0 feeds bytes) bytes)) (drop (behind_feeds 0 feeds bytes) bytes)
    ≡ slice_index_or (slice_split is_line_feed bytes) feeds []
line_of zero bytes = rw (zero_place bytes) (first_line bytes)
line_of (suc feeds) [] = refl
line_of (suc feeds) (byte ∷ bytes) = next_step feeds byte bytes _ refl (λ count. line_of count bytes)

-- the bytes from a place to the end of its line
from_place : (text : List ℕ) (place : ℕ) →
    slice_range text place (line_end place (drop place text)) ≡ take (line_end 0 (drop place text)) (drop place text)
from_place text place =
    let long : line_end place (drop place text) - place ≡ line_end 0 (drop place text) =
    omega (arith, end_from place (drop place text)) in
    ap (λ (count : ℕ). take count (drop place text)) long

-- after a byte order mark
marked_place : (feeds : ℕ) (rest : List ℕ) →
    drop (if behind_feeds 0 feeds (239 ∷ 187 ∷ 191 ∷ rest) == 0 then 3
    else behind_feeds 0 feeds (239 ∷ 187 ∷ 191 ∷ rest)) (239 ∷ 187 ∷ 191 ∷ rest)
    ≡ drop (behind_feeds 0 feeds rest) rest
marked_place zero rest = rw (zero_place rest) refl
marked_place (suc feeds) rest =
    let some : (suc feeds == 0) ≡ false = grind (arith, nat_tests) in
    let behind : ℕ = behind_feeds 0 (suc feeds) rest in
    let place : behind_feeds 3 (suc feeds) rest ≡ suc (suc (suc behind)) =
    behind_from 3 (suc feeds) rest ∙ omega arith in
    let further : (suc (suc (suc behind)) == 0) ≡ false = grind (arith, nat_tests) in
    rw (some, place, further) refl

-- without one
place_alone : (place : ℕ) (text : List ℕ) (none : Bool) → (place == 0) ≡ none →
    drop (if place == 0 then 0 else place) text ≡ drop place text
place_alone place text true is =
    let zero : place ≡ 0 = grind (arith, nat_tests) in
    rw (is, zero) refl
place_alone place text false is = rw is refl

in_place : (text : List ℕ) (line : ℕ) (marked : Bool) → starts_with nat_eq text (239 ∷ 187 ∷ 191 ∷ []) ≡ marked →
    drop (line_start text line) text
    ≡ drop (behind_feeds 0 (line - 1) (drop (mark_length text) text)) (drop (mark_length text) text)
in_place text line true is =
    let split : text ≡ 239 ∷ 187 ∷ 191 ∷ drop 3 text =
    (starts_is Decides-eqb text (239 ∷ 187 ∷ 191 ∷ []) true (sym is)).0 refl in
    rw is (subst (λ (all : List ℕ). drop (if behind_feeds 0 (line - 1) all == 0 then 3
    else behind_feeds 0 (line - 1) all) all
    ≡ drop (behind_feeds 0 (line - 1) (drop 3 text)) (drop 3 text)) (sym split) (marked_place (line - 1) (drop 3 text)))
in_place text line false is = rw is (place_alone (behind_feeds 0 (line - 1) text) text _ refl)

pub line_is : (text : List ℕ) (line : ℕ) →
    slice_range text (line_start text line) (line_end (line_start text line) (drop (line_start text line) text))
    ≡ line_text text line
line_is text line =
    from_place text (line_start text line)
    ∙ rw (in_place text line _ refl) (line_of (line - 1) (drop (mark_length text) text))
