use Rattle.std.proofs.Common.{◌≡◌, ◌∙◌, sym, ap, subst, ◌<◌, List, ℕ, length}
use Rattle.std.specs.List.{prefix_len}
use Rattle.std.specs.Prelude.{drop}
use Rattle.ps_model.specs.text.Words.{is_blank}
use Rattle.ps_model.specs.text.Lines.{without_blank_end}
use Rattle.ps_model.specs.text.LineNumbers.{line_at}
use Rattle.ps_levels.proofs.WrittenRows.{some-characters}
use Rattle.ps_levels.proofs.row_text.characters_of.Goals as goal

pub returns-clause-some : goal.returns-clause-some
returns-clause-some c = λ written.
    let bytes : List ℕ = (line_at c.args.source.now c.args.line).bytes in
    let text = c.without_blank_ends-text.result.now in
    let same : text ≡ without_blank_end (drop (prefix_len is_blank bytes) bytes) =
    c.without_blank_ends-text.ensures ∙ ap (λ (bs : List ℕ).
    without_blank_end (drop (prefix_len is_blank bs) bs)) c.visible.ensures in
    subst (λ (cs : List ℕ). 0 < length cs) (sym c.in_ok-characters.ensures)
    (some-characters bytes text c.without_blank_ends-text.utf8 same written)
