use Rattle.std.proofs.Common.{rules, ◌≡◌, ◌∙◌, ◌+◌, ◌≤◌, length, string_bytes, ap, ℕ, List, arith}
use Rattle.std.specs.Prelude.{slice_range}
use Rattle.std.proofs.lemmas.Grind.{common_steps}
use Rattle.ps_model.specs.text.Lines.{Line}
use Rattle.ps_text.specs.TakenRanges.{IsTextRange}
use Rattle.ps_text.proofs.Slices.{part_of_line}
use Rattle.ps_text.proofs.Numbers.{number_of_line}
use Rattle.ps_text.proofs.sources.Source.rest.Goals as goal

pub returns-clause-line : goal.returns-clause-line
returns-clause-line c = c.word_at.ensures.line ∙ ap (λ (line : Line). line.number) c.row-row.ensures.line
    ∙ number_of_line c.args.self.now c.args.line c.requires.0 c.requires.1

pub returns-clause-text : goal.returns-clause-text
returns-clause-text c =
    let text = c.args.self.now in
    let row = c.row-row.result.now in
    let range = c.in-Some.range in
    let raw : c.range.result.now ≡ slice_range text row.start (row.start + length (string_bytes row.visible)) =
    search rules in
    let long : length (slice_range text row.start (row.start + length (string_bytes row.visible))) ≡ length
    (string_bytes row.visible) =
    (let within : row.start + length (string_bytes row.visible) ≤ length text = c.row-row.ensures.row.end.0 in
    grind (arith, common_steps)) in
    let whole : IsTextRange (slice_range text row.start (row.start + length (string_bytes row.visible))) range =
    search rules in
    rw (c.word_at.ensures.start, c.word_at.ensures.end)
    (c.word_at.ensures.text ∙ ap (λ (bytes : List ℕ). slice_range bytes range.start range.end) raw
    ∙ part_of_line text row.start (row.start + length (string_bytes row.visible)) range.start range.end whole.order
    (omega (arith, whole.end.0, long)))
