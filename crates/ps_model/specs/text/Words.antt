-- The words of a line: its longest runs of bytes without a byte that parts words. Some bytes are words by themselves
-- wherever they stand. All of these bytes are ASCII, so no character is ever cut. The words of a rule ask for more than
-- one byte: RuleWords has them.
use Rattle.std.specs.Prelude.{ℕ, suc, ◌==◌, Bool, true, false, ◌||◌, Option, Some, None, unwrap_or, List, [], ◌∷◌, ◌++◌}
use Rattle.std.specs.Prelude.{map, slice_range}
use Rattle.ps_model.specs.declared.texts.Cut.{Cut}
use Rattle.ps_model.specs.declared.texts.Cut.TheVariants.{Blanks, Legend, Layers, Rule}

-- blanks are space, tab and carriage return
abbrev pub is_blank : ℕ → Bool
is_blank byte = byte == 32 || byte == 9 || byte == 13

-- the byte parts words: a blank, and between the names of a layer also a comma
abbrev pub parts_words : Cut → ℕ → Bool
parts_words Blanks byte = is_blank byte
parts_words Legend byte = is_blank byte
parts_words Layers byte = is_blank byte || byte == 44
parts_words Rule byte = is_blank byte

-- the byte is a word by itself: the `=` of a legend line, and `[`, `]` and `|` of a rule
abbrev pub stands_alone : Cut → ℕ → Bool
stands_alone Blanks byte = false
stands_alone Legend byte = byte == 61
stands_alone Layers byte = false
stands_alone Rule byte = byte == 91 || byte == 93 || byte == 124

-- a run that is open ends here
abbrev pub run_to : Option ℕ → ℕ → List (ℕ × ℕ)
run_to None place = []
run_to (Some start) place = (start, place) ∷ []

-- the words, each from its first place to the place after it, of the bytes from a place on, where a run may be open
abbrev pub words_from : Cut → ℕ → Option ℕ → List ℕ → List (ℕ × ℕ)
words_from cut place open_run [] = run_to open_run place
words_from cut place open_run (byte ∷ bytes) = elim (parts_words cut byte) [
  | true ↦ run_to open_run place ++ words_from cut (suc place) None bytes
  | false ↦ elim (stands_alone cut byte) [
    | true ↦ run_to open_run place ++ (place, suc place) ∷ words_from cut (suc place) None bytes
    | false ↦ words_from cut (suc place) (Some (unwrap_or open_run place)) bytes
  ]
]

-- the words of a line, by their places in it
abbrev pub words_in : Cut → List ℕ → List (ℕ × ℕ)
words_in cut bytes = words_from cut 0 None bytes

-- the words of a line, by their bytes
abbrev pub word_texts : Cut → List ℕ → List (List ℕ)
word_texts cut bytes = map (λ word. slice_range bytes word.0 word.1) (words_in cut bytes)
