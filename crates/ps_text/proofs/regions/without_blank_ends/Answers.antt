use Rattle.std.proofs.Common.{rules, arith, ◌≡◌, ◌∙◌, ◌+◌, ap, List, ℕ, length, drop}
use Rattle.std.specs.List.{prefix_len}
use Rattle.std.proofs.lemmas.Str.{IsCharBoundary-start}
use Rattle.ps_model.specs.text.Words.{is_blank}
use Rattle.ps_model.specs.text.Lines.{without_blank_end}
use Rattle.ps_text.proofs.BlankEnds.{between-blanks}
use Rattle.ps_text.proofs.regions.without_blank_ends.Goals as goal

pub past_parting-start-requires-clause-cuttable : goal.past_parting-start-requires-clause-cuttable
past_parting-start-requires-clause-cuttable c = IsCharBoundary-start c.as_bytes-bytes.result.now (search rules)

pub returns : goal.returns
returns c =
    let start : ℕ = c.past_parting-start.result in
    let same = c.as_bytes-bytes.ensures.value in
    let from_zero : 0 + prefix_len is_blank c.as_bytes-bytes.result.now ≡ prefix_len is_blank
    c.as_bytes-bytes.result.now = omega arith in
    c.range.ensures.value
    ∙ between-blanks c.args.line.now start c.blank_end-end.result (c.past_parting-start.ensures.place ∙ from_zero
    ∙ ap (prefix_len is_blank) same)
    (c.blank_end-end.ensures.place ∙ ap (λ (bytes : List ℕ).
    start + length (without_blank_end (drop start bytes))) same)
