-- A word's span from its three numbers.
use Rattle.std.proofs.Common.{◌≡◌, ℕ, ◌+◌, refl}
use Rattle.ps_model.specs.text.Lines.{Line}
use Rattle.ps_text.specs.declared.cutting.Word.{Word}
use Rattle.ps_text.specs.WordViews.{span_of, span_at}

pub same_word_span : (word : Word) (line : Line) (start end : ℕ) → word.span.line ≡ line.number →
    word.span.start ≡ line.start + start → word.span.end ≡ line.start + end → span_of word ≡ span_at line (start, end)
same_word_span word line start end n s e = rw (← n, ← s, ← e) refl
