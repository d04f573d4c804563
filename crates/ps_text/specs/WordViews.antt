-- The words that a text is cut into, by their spans and by their bytes, and what it is for spans to rise.
use Rattle.std.specs.Prelude.{ℕ, ◌≡◌, ◌+◌, ◌≤◌, ◌<◌, List, [], ◌∷◌, map, slice_range}
use Rattle.ps_model.specs.declared.texts.Cut.{Cut}
use Rattle.ps_model.specs.declared.texts.Span.{Span}
use Rattle.ps_model.specs.text.Lines.{Line, Taken}
use Rattle.ps_model.specs.text.RuleWords.{words_under}
use Rattle.ps_text.specs.declared.cutting.Word.{Word}

abbrev pub span_of : Word → Span
span_of word = word.span

abbrev pub text_of : Word → List ℕ
text_of word = word.text.now

-- a word as a text that is taken as it stands
abbrev pub taken_of : Word → Taken
taken_of word = record { start = word.span.start; bytes = word.text.now }

-- a place of a line as a place of the text
abbrev pub span_at : Line → ℕ × ℕ → Span
span_at line place = record { line = line.number; start = line.start + place.0; end = line.start + place.1 }

-- the bytes of a place of a line
abbrev pub bytes_at : List ℕ → ℕ × ℕ → List ℕ
bytes_at line place = slice_range line place.0 place.1

-- the words of a line under a cut, by their bytes
abbrev pub texts_under : Cut → List ℕ → List (List ℕ)
texts_under cut line = map (bytes_at line) (words_under cut line)

-- the word's bytes are those of the text at its span
abbrev pub IsSliceOf : List ℕ → Word → Type 0
IsSliceOf text word = word.text.now ≡ slice_range text word.span.start word.span.end

-- places from a place on and up to another, each holding a byte at least, and each after the one before it
abbrev pub AreRising : ℕ → ℕ → List (ℕ × ℕ) → Type 0
AreRising low high [] = low ≤ high
AreRising low high (place ∷ places) = (low ≤ place.0) × (place.0 < place.1) × AreRising place.1 high places

-- the same of spans
abbrev pub AreRisingSpans : ℕ → ℕ → List Span → Type 0
AreRisingSpans low high [] = low ≤ high
AreRisingSpans low high (span ∷ spans) = (low ≤ span.start) × (span.start < span.end) × AreRisingSpans span.end high
    spans
