-- Words that are written much alike: after a front of both.
use Rattle.std.proofs.Common.{◌≡◌, ◌∙◌, ◌+◌, ◌<◌, ◌≤◌, ℕ, List, ◌++◌, length, take, drop, get_or, refl}
use Rattle.std.proofs.Common.{sym, ap, subst, arith}
use Rattle.std.proofs.lemmas.List.{append_assoc, get_or-map, length-map, length-take, take-append-drop, take_more}
use Rattle.std.specs.Char.{to_ascii_lowercase}
use Rattle.std.specs.List.{drop-map}
use Rattle.ps_model.specs.text.Lines.{folded}
use Rattle.ps_facts.specs.Near.{AreWithinOne, AreWithinTwo}

-- a front has no more bytes than are taken
short : (count : ℕ) (word : List ℕ) → count ≤ 1 → length (take count word) ≤ 1
short count word few = rw (length-take count word) (omega (arith, few))

-- a word in three parts
parts : (front count : ℕ) (word : List ℕ) →
    word ≡ take front word ++ (take count (drop front word) ++ drop count (drop front word))
parts front count word =
    sym (take-append-drop front word)
    ∙ ap (λ (rest : List ℕ). take front word ++ rest) (sym (take-append-drop count (drop front word)))

-- after a front of both, and a byte at most of each, they are the same
pub within_one : (word other : List ℕ) (front count other_count : ℕ) → take front word ≡ take front other →
    count ≤ 1 → other_count ≤ 1 → drop count (drop front word) ≡ drop other_count (drop front other) →
    AreWithinOne word other
within_one word other front count other_count same few other_few rest =
    record {
      front = take front word;
      byte = take count (drop front word);
      other_byte = take other_count (drop front other);
      behind = drop count (drop front word);
      few = short count (drop front word) few;
      other_few = short other_count (drop front other) other_few;
      is = parts front count word;
      other_is = rw (same, rest) (parts front other_count other);
    }

-- with one more front
behind_front : (front word other : List ℕ) → AreWithinOne word other → AreWithinOne (front ++ word) (front ++ other)
behind_front front word other near =
    record {
      front = front ++ near.front;
      byte = near.byte;
      other_byte = near.other_byte;
      behind = near.behind;
      few = near.few;
      other_few = near.other_few;
      is = ap (λ (rest : List ℕ). front ++ rest) near.is
          ∙ sym (append_assoc front near.front (near.byte ++ near.behind));
      other_is = ap (λ (rest : List ℕ). front ++ rest) near.other_is
          ∙ sym (append_assoc front near.front (near.other_byte ++ near.behind));
    }

-- after a front of both, and a byte at most of each, one edit at most makes one of the other
pub within_two : (word other : List ℕ) (front count other_count : ℕ) → take front word ≡ take front other →
    count ≤ 1 → other_count ≤ 1 →
    AreWithinOne (drop count (drop front word)) (drop other_count (drop front other)) → AreWithinTwo word other
within_two word other front count other_count same few other_few rest =
    let first : List ℕ = take front word in
    let byte : List ℕ = take other_count (drop front other) in
    let behind : List ℕ = drop count (drop front word) in
    let other_behind : List ℕ = drop other_count (drop front other) in
    let is : (first ++ byte) ++ behind ≡ first ++ (byte ++ behind) = append_assoc first byte behind in
    let other_is : (first ++ byte) ++ other_behind ≡ other =
    append_assoc first byte other_behind
    ∙ ap (λ (front : List ℕ). front ++ (byte ++ other_behind)) same ∙ sym (parts front other_count other) in
    record {
      between = first ++ (byte ++ behind);
      one = record {
        front = first;
        byte = take count (drop front word);
        other_byte = byte;
        behind = behind;
        few = short count (drop front word) few;
        other_few = short other_count (drop front other) other_few;
        is = parts front count word;
        other_is = refl;
      };
      other_one = subst (λ (name : List ℕ). AreWithinOne (first ++ (byte ++ behind)) name) other_is
          (subst (λ (middle : List ℕ). AreWithinOne middle ((first ++ byte) ++ other_behind)) is
          (behind_front (first ++ byte) behind other_behind rest));
    }

-- what stands after a front, letters folded
behind_folded : (front count : ℕ) (word : List ℕ) →
    drop count (drop front (folded word)) ≡ folded (drop count (drop front word))
behind_folded front count word =
    ap (λ (rest : List ℕ). drop count rest) (drop-map to_ascii_lowercase front word)
    ∙ drop-map to_ascii_lowercase count (drop front word)

-- of words as they stand
pub bytes_within_one : (word other rest other_rest : List ℕ) (front count other_count : ℕ) →
    take front (folded word) ≡ take front (folded other) → count ≤ 1 → other_count ≤ 1 →
    rest ≡ drop count (drop front word) → other_rest ≡ drop other_count (drop front other) →
    folded rest ≡ folded other_rest → AreWithinOne (folded word) (folded other)
bytes_within_one word other rest other_rest front count other_count same few other_few is other_is rests =
    within_one (folded word) (folded other) front count other_count same few other_few
    (behind_folded front count word ∙ ap folded (sym is) ∙ rests ∙ ap folded other_is
    ∙ sym (behind_folded front other_count other))

pub bytes_within_two : (word other rest other_rest : List ℕ) (front count other_count : ℕ) →
    take front (folded word) ≡ take front (folded other) → count ≤ 1 → other_count ≤ 1 →
    rest ≡ drop count (drop front word) → other_rest ≡ drop other_count (drop front other) →
    AreWithinOne (folded rest) (folded other_rest) → AreWithinTwo (folded word) (folded other)
bytes_within_two word other rest other_rest front count other_count same few other_few is other_is rests =
    within_two (folded word) (folded other) front count other_count same few other_few
    (rw (behind_folded front count word, behind_folded front other_count other, ← is, ← other_is) rests)

-- one more byte of both
pub one_more : (word other : List ℕ) (at : ℕ) → at < length word → at < length other →
    to_ascii_lowercase (get_or word at 0) ≡ to_ascii_lowercase (get_or other at 0) →
    take at (folded word) ≡ take at (folded other) → take (at + 1) (folded word) ≡ take (at + 1) (folded other)
one_more word other at in_word in_other same front =
    let long : length (folded word) ≡ length word = length-map word to_ascii_lowercase in
    let other_long : length (folded other) ≡ length other = length-map other to_ascii_lowercase in
    let inside : at < length (folded word) = omega (arith, in_word, long) in
    let other_inside : at < length (folded other) = omega (arith, in_other, other_long) in
    rw (
      take_more (folded word) at 0 inside,
      take_more (folded other) at 0 other_inside,
      get_or-map to_ascii_lowercase word at 0 0 in_word,
      get_or-map to_ascii_lowercase other at 0 0 in_other,
      same,
      front,
    ) refl
