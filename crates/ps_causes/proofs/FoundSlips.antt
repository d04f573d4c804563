-- A slip that was found among the words of a line is one of the line.
use Rattle.std.proofs.Common.{◌≡◌, ℕ, zero, suc, ◌+◌, ◌-◌, ◌<◌, true, false, List, [], ◌∷◌, ◌++◌, length, map}
use Rattle.std.proofs.Common.{get_or, take, drop}
use Rattle.std.proofs.Common.{All, refl, sym, ap, ◌∙◌, arith}
use Rattle.std.proofs.lemmas.List.{length-drop, get_or-drop}
use Rattle.ps_model.specs.text.LineNumbers.{line_at}
use Rattle.ps_text.specs.WordViews.{text_of}
use Rattle.ps_text.specs.declared.cutting.Word.{Word}
use Rattle.ps_facts.specs.declared.signs.Sign.TheVariants.{Arrow}
use Rattle.ps_facts.specs.declared.slips.Slip.{Slip}
use Rattle.ps_causes.specs.Causes.{IsSlip}
use Rattle.ps_facts.specs.LineWords.{IsWordOf, texts_of}
use Rattle.ps_causes.specs.Meant.{names_in, meant, is_aggregate_at}
use Rattle.ps_causes.specs.Pairs.{IsPairIn, IsPair}
use Rattle.ps_causes.specs.RuleCauses.{IsArrowOf, IsBrokenArrow, IsSeveral}
use Rattle.ps_causes.specs.Unbound.{IsSpot, IsUnbound, CouldBe, is_open, alike_on_left}
use Rattle.ps_causes.specs.declared.causes.Could.{Could}
use Rattle.ps_causes.specs.declared.causes.Shared.{Shared}
use Rattle.ps_causes.specs.declared.causes.Spot.{Spot}
use Rattle.ps_facts.specs.Counts.{cells_begun}
use Rattle.ps_facts.specs.Places.{is_barred, is_inside}
use Rattle.ps_facts.specs.FoundSlips.{IsFoundIn}
use Rattle.ps_facts.specs.NamesShown.{is_own}
use Rattle.ps_facts.specs.Signs.{is_sign, has_sign}
use Rattle.ps_facts.specs.Slips.{section_of}

-- a list is what stands before a place, what stands there, and what stands after it
pub parts-at : {A B : Type 0} (f : A → B) (xs : List A) (k : ℕ) (d : A) → k < length xs →
    map f xs ≡ map f (take k xs) ++ f (get_or xs k d) ∷ map f (drop (k + 1) xs)
parts-at f [] k d less = absurd (omega arith)
parts-at f (x ∷ xs) zero d less = refl
parts-at f (x ∷ xs) (suc k) d less =
    let next : suc k + 1 ≡ suc (k + 1) = omega arith in rw next (ap (λ others. f x ∷ others)
    (parts-at f xs k d (omega arith)))

pub told-found : (text : List ℕ) (line : ℕ) (words : List Word) (word : Word) (slip : Slip) →
    is_own (section_of slip) (line_at text line) ≡ true → All (IsWordOf text line) words →
    map text_of words ≡ texts_of text line → IsFoundIn words slip word → IsSlip text line word slip
told-found text line words word slip own each texts found =
    let same : text_of (get_or words found.at word) ≡ word.text.now = ap text_of (sym found.here) in
    record {
      stands = rw found.here (each found.at word found.within);
      own = own;
      before = map text_of (take found.at words);
      behind = map text_of (drop (found.at + 1) words);
      parts =
          sym texts ∙ parts-at text_of words found.at word found.within ∙ ap (λ (t : List ℕ).
          map text_of (take found.at words) ++ t ∷ map text_of (drop (found.at + 1) words)) same;
      holds = found.holds;
    }

-- a word at a place is one of the line
word-there : (text : List ℕ) (line : ℕ) (words : List Word) (from at : ℕ) (word : Word) →
    at < length (drop from words) → word ≡ get_or (drop from words) at word → All (IsWordOf text line) words →
    IsWordOf text line word
word-there text line words from at word within there each =
    let less : at < length words - from = rw (← length-drop from words) within in
    let place : from + at < length words = omega arith in
    rw (there ∙ get_or-drop from words at word) (each (from + at) word place)

-- two names that were found in one cell among the words of a line, and what they share
pub told-pair : (text : List ℕ) (line : ℕ) (words : List Word) (other word : Word) (shared : Shared) →
    All (IsWordOf text line) words → map text_of words ≡ texts_of text line →
    IsPairIn text words other word shared → IsPair text line word other shared
told-pair text line words other word shared each texts found =
    let rest : List Word = drop (found.place + 1) words in
    let first : text_of (get_or words found.place other) ≡ other.text.now = ap text_of (sym found.here) in
    let second : text_of (get_or rest found.at word) ≡ word.text.now = ap text_of (sym found.there) in
    record {
      stands = word-there text line words (found.place + 1) found.at word found.behind found.there each;
      other_stands = rw found.here (each found.place other found.within);
      before = map text_of (take found.place words);
      between = map text_of (take found.at rest);
      behind = map text_of (drop (found.at + 1) rest);
      parts =
          sym texts ∙ parts-at text_of words found.place other found.within ∙ ap (λ (t : List ℕ).
          map text_of (take found.place words) ++ t ∷ map text_of rest) first ∙ ap (λ (t : List (List ℕ)).
          map text_of (take found.place words) ++ other.text.now ∷ t)
          (parts-at text_of rest found.at word found.behind ∙ ap (λ (t : List ℕ).
          map text_of (take found.at rest) ++ t ∷ map text_of (drop (found.at + 1) rest)) second);
      one_cell = found.one_cell;
      true_share = found.true_share;
    }

-- a word at a place after `no`, and the line that makes it several objects at once
pub told-several : (text : List ℕ) (line : ℕ) (words : List Word) (at declared : ℕ) (d : Word) → at < length words →
    All (IsWordOf text line) words → map text_of words ≡ texts_of text line →
    is_barred (map text_of (take at words)) ≡ true →
    is_aggregate_at declared (meant (names_in text) (get_or words at d).text.now) ≡ true →
    IsSeveral text line (get_or words at d) declared
told-several text line words at declared d within each texts barred several = record {
  stands = each at d within;
  before = map text_of (take at words);
  behind = map text_of (drop (at + 1) words);
  parts = sym texts ∙ parts-at text_of words at d within;
  barred = barred;
  several = several;
}

-- a word at a place of the left
pub told-spot : (text : List ℕ) (line : ℕ) (words : List Word) (at : ℕ) (spot : Spot) (d : Word) →
    at < length words → spot.word ≡ get_or words at d → All (IsWordOf text line) words →
    map text_of words ≡ texts_of text line →
    has_sign Arrow (map text_of (take at words)) ≡ false → is_inside (map text_of (take at words)) ≡ true →
    is_barred (map text_of (take at words)) ≡ false → spot.cell ≡ cells_begun (map text_of (take at words)) →
    IsSpot text line spot
told-spot text line words at spot d within here each texts left inside unbarred counted =
    let same : text_of (get_or words at d) ≡ spot.word.text.now = ap text_of (sym here) in
    record {
      stands = rw here (each at d within);
      before = map text_of (take at words);
      behind = map text_of (drop (at + 1) words);
      parts =
          sym texts ∙ parts-at text_of words at d within ∙ ap (λ (t : List ℕ).
          map text_of (take at words) ++ t ∷ map text_of (drop (at + 1) words)) same;
      on_the_left = left;
      in_a_cell = inside;
      unbarred = unbarred;
      counted = counted;
    }

-- a word at a place of the right, how often the left has one like it, and what of these could be meant
pub told-unbound : (text : List ℕ) (line : ℕ) (words : List Word) (at times : ℕ) (could : Could) (d : Word) →
    at < length words → All (IsWordOf text line) words → map text_of words ≡ texts_of text line →
    has_sign Arrow (map text_of (take at words)) ≡ true →
    is_open (names_in text) (get_or words at d).text.now ≡ true →
    times ≡ alike_on_left (names_in text) (get_or words at d).text.now (map text_of (take at words)) →
    CouldBe text line (get_or words at d).text.now could →
    IsUnbound text line (get_or words at d) times could
told-unbound text line words at times could d within each texts right left_open counted true_could = record {
  stands = each at d within;
  before = map text_of (take at words);
  behind = map text_of (drop (at + 1) words);
  parts = sym texts ∙ parts-at text_of words at d within;
  on_the_right = right;
  left_open = left_open;
  counted = counted;
  true_could = true_could;
}

-- an arrow at a place of a line
pub told-arrow : (text : List ℕ) (line : ℕ) (words : List Word) (at : ℕ) (d : Word) → at < length words →
    All (IsWordOf text line) words → map text_of words ≡ texts_of text line →
    is_sign Arrow (text_of (get_or words at d)) ≡ true →
    IsArrowOf text line (get_or words at d) (map text_of (take at words)) (map text_of (drop (at + 1) words))
told-arrow text line words at d within each texts sign = record {
  stands = each at d within;
  parts = sym texts ∙ parts-at text_of words at d within;
  sign = sign;
}

-- a word at a place of a line without an arrow, and the next one
pub told-broken : (text : List ℕ) (line : ℕ) (words : List Word) (at next : ℕ) (word other : Word) → next ≡ at + 1 →
    next < length words → word ≡ get_or words next word → other ≡ get_or words at other →
    All (IsWordOf text line) words → map text_of words ≡ texts_of text line →
    has_sign Arrow (map text_of words) ≡ false → IsBrokenArrow text line word other
told-broken text line words at next word other n within there here each texts none =
    let rest : List Word = drop (at + 1) words in
    let less : at < length words = omega arith in
    let more : 0 < length rest = rw length-drop (omega arith) in
    let place : at + 1 + 0 ≡ next = omega arith in
    let first : text_of (get_or words at other) ≡ other.text.now = ap text_of (sym here) in
    let second : text_of (get_or rest 0 word) ≡ word.text.now =
    ap text_of (get_or-drop (at + 1) words 0 word ∙ ap (λ (k : ℕ). get_or words k word) place ∙ sym there) in
    record {
      stands = rw there (each next word within);
      other_stands = rw here (each at other less);
      before = map text_of (take at words);
      behind = map text_of (drop 1 rest);
      parts =
          sym texts ∙ parts-at text_of words at other less ∙ ap (λ (t : List ℕ).
          map text_of (take at words) ++ t ∷ map text_of rest) first ∙ ap (λ (t : List (List ℕ)).
          map text_of (take at words) ++ other.text.now ∷ t)
          (parts-at text_of rest 0 word more ∙ ap (λ (t : List ℕ). t ∷ map text_of (drop 1 rest)) second);
      arrowless = ap (has_sign Arrow) (sym texts) ∙ none;
    }
