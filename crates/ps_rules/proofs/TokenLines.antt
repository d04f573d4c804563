-- The words of a line as a source gives them, against their places.
use Rattle.std.proofs.Common.{◌≡◌, ℕ, ◌+◌, List, [], ◌∷◌, map, refl, ap, ap₂}
use Rattle.ps_model.specs.declared.texts.Span.{Span}
use Rattle.ps_model.specs.text.Lines.{Line}
use Rattle.ps_model.specs.rules.RuleSymbols.{Symbol, token_by, tokens_at, first_symbol, symbol_of}
use Rattle.ps_model.specs.names.Names.{Names}
use Rattle.ps_text.specs.declared.cutting.Word.{Word}
use Rattle.ps_text.specs.WordViews.{text_of, span_of, bytes_at, span_at}
use Rattle.ps_rules.specs.SymbolsShown.{token_of_word, tokens_of_words}

one_token : (f : List ℕ → Symbol) (line : Line) (word : Word) (place : ℕ × ℕ) →
    text_of word ≡ bytes_at line.bytes place → span_of word ≡ span_at line place
    → token_of_word f word ≡ token_by f line place
one_token f line word place t s =
    let at : word.span.start ≡ line.start + place.0 = ap (λ (x : Span). x.start) s in
    rw (at, t) refl

pub tokens-by : (f : List ℕ → Symbol) (line : Line) (words : List Word) (places : List (ℕ × ℕ)) →
    map text_of words ≡ map (bytes_at line.bytes) places
    → map span_of words ≡ map (span_at line) places → map (token_of_word f) words ≡ map (token_by f line) places
tokens-by f line [] [] t s = refl
tokens-by f line [] (place ∷ places) t s = cc
tokens-by f line (word ∷ words) [] t s = cc
tokens-by f line (word ∷ words) (place ∷ places) t s =
    let text : text_of word ≡ bytes_at line.bytes place = cc in
    let span : span_of word ≡ span_at line place = cc in
    let texts : map text_of words ≡ map (bytes_at line.bytes) places = cc in
    let spans : map span_of words ≡ map (span_at line) places = cc in
    ap₂ (λ x xs. x ∷ xs) (one_token f line word place text span) (tokens-by f line words places texts spans)

pub tokens-at : (names : Names) (line : Line) (words : List Word) (places : List (ℕ × ℕ)) →
    map text_of words ≡ map (bytes_at line.bytes) places
    → map span_of words ≡ map (span_at line) places → tokens_of_words names words ≡ tokens_at names line places
tokens-at names line [] [] t s = refl
tokens-at names line [] (place ∷ places) t s = cc
tokens-at names line (word ∷ words) [] t s = cc
tokens-at names line (word ∷ words) (place ∷ places) t s =
    let text : text_of word ≡ bytes_at line.bytes place = cc in
    let span : span_of word ≡ span_at line place = cc in
    let texts : map text_of words ≡ map (bytes_at line.bytes) places = cc in
    let spans : map span_of words ≡ map (span_at line) places = cc in
    ap₂ (λ x xs. x ∷ xs) (one_token (first_symbol names) line word place text span)
    (tokens-by (symbol_of names) line words places texts spans)
