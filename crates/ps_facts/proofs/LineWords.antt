-- Each word of a line is one of it.
use Rattle.std.proofs.Common.{◌≡◌, ℕ, ◌<◌, List, length, map, get_or, All, sym, ap, ◌∙◌}
use Rattle.std.proofs.lemmas.List.{length-map, get_or-map}
use Rattle.ps_model.specs.declared.texts.Cut.{Cut}
use Rattle.ps_model.specs.declared.texts.Span.{Span}
use Rattle.ps_model.specs.text.LineNumbers.{line_at}
use Rattle.ps_model.specs.text.RuleWords.{words_under}
use Rattle.ps_text.specs.WordViews.{IsSliceOf, span_at, span_of}
use Rattle.ps_text.specs.declared.cutting.Word.{Word}
use Rattle.ps_facts.specs.LineWords.{IsWordOf, cut_of}

pub each_word : (text : List ℕ) (line : ℕ) (cut : Cut) (words : List Word) →
    cut ≡ cut_of (line_at text line).section →
    map span_of words ≡ map (span_at (line_at text line)) (words_under cut (line_at text line).bytes) →
    All (IsSliceOf text) words → All (IsWordOf text line) words
each_word text line cut words c spans slices = λ k d less.
    let same : map span_of words ≡ map (span_at (line_at text line))
    (words_under (cut_of (line_at text line).section) (line_at text line).bytes) =
    spans ∙ ap (λ (c : Cut). map (span_at (line_at text line)) (words_under c (line_at text line).bytes)) c in
    let span : Span = span_of (get_or words k d) in
    let within : k < length (map (span_at (line_at text line))
    (words_under (cut_of (line_at text line).section) (line_at text line).bytes)) =
    rw (← same, length-map) less in
    let here : span ≡ get_or (map (span_at (line_at text line))
    (words_under (cut_of (line_at text line).section) (line_at text line).bytes)) k span =
    sym (get_or-map span_of words k d span less) ∙ ap (λ (spans : List Span). get_or spans k span) same in
    record { span = (k, (within, here)); bytes = slices k d less }
