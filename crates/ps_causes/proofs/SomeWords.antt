-- What holds of each word of a line, and what of the last.
use Rattle.std.proofs.Common.{◌≡◌, ◌∙◌, ◌<◌, ◌-◌, ℕ, List, Some, length, get_or, All, ap, arith, map, sym, slice_get}
use Rattle.std.proofs.lemmas.List.{length-map}
use Rattle.std.proofs.lemmas.Option.{slice_get-get_or, slice_get-map}
use Rattle.std.specs.Prelude.{option_map}
use Rattle.std.specs.List.{IsAmong}
use Rattle.ps_text.specs.WordViews.{text_of}
use Rattle.ps_text.specs.declared.cutting.Word.{Word}
use Rattle.ps_facts.specs.LineWords.{IsWordOf, texts_of}
use Rattle.ps_causes.specs.LineEnds.{IsLastWordOf}

-- what holds of each word holds of the first
pub holds-of_first : (P : Word → Type 0) (words : List Word) (word : Word) → 0 < length words →
    word ≡ get_or words 0 word → All P words → P word
holds-of_first P words word some e all = rw e (all 0 word some)

-- what holds of each word holds of one among them
pub holds-of_one : (P : Word → Type 0) (words : List Word) (word : Word) → IsAmong words word → All P words → P word
holds-of_one P words word among all = rw among.1.1 (all among.0 word among.1.0)

-- after the last of a line's words no other one comes
pub last-of_line : (text : List ℕ) (line : ℕ) (words : List Word) (word : Word) → 0 < length words →
    word ≡ get_or words (length words - 1) word → All (IsWordOf text line) words →
    map text_of words ≡ texts_of text line → IsLastWordOf text line word
last-of_line text line words word some here each texts =
    let low : length words - 1 < length words = omega (arith, some) in
    record {
      stands = rw here (each (length words - 1) word low);
      last =
          ap (λ (all : List (List ℕ)). slice_get all (length all - 1)) (sym texts)
          ∙ ap (λ (count : ℕ). slice_get (map text_of words) (count - 1)) (length-map words text_of)
          ∙ slice_get-map text_of words (length words - 1)
          ∙ ap (option_map text_of) (slice_get-get_or words (length words - 1) word low)
          ∙ ap (λ (last : Word). Some (text_of last)) (sym here);
    }
