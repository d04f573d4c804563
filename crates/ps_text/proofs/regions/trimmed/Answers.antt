use Rattle.std.proofs.Common.{◌≡◌, ◌∙◌, ◌+◌, ◌-◌, ◌≤◌, List, ℕ, length, take, drop, ap, arith}
use Rattle.std.specs.Prelude.{slice_range}
use Rattle.std.specs.List.{prefix_len}
use Rattle.std.proofs.lemmas.Grind.{common_steps}
use Rattle.ps_model.specs.text.Words.{is_blank}
use Rattle.ps_model.specs.text.Lines.{without_blank_end}
use Rattle.ps_text.proofs.Trimmed.{region_of_front, trimmed_region}
use Rattle.ps_text.proofs.regions.trimmed.Goals as goal

pub returns-clause-start : goal.returns-clause-start
returns-clause-start c =
    let raw = c.args.raw.now in
    let front : c.as_bytes-front.result.now ≡ take c.args.region.end raw = c.as_bytes-front.ensures.value
    ∙ c.range.ensures.value ∙ (let size : c.args.region.end - 0 ≡ c.args.region.end =
    omega arith in ap (λ (n : ℕ). take n raw) size) in
    c.past_parting-start.ensures.place ∙ ap (λ (bs : List ℕ).
    c.args.region.start + prefix_len is_blank bs) (ap (drop c.args.region.start) front
    ∙ region_of_front raw c.args.region.start c.args.region.end c.requires.order)

pub returns-clause-bytes : goal.returns-clause-bytes
returns-clause-bytes c =
    let raw = c.args.raw.now in
    let region = c.args.region in
    let front : c.as_bytes-front.result.now ≡ take region.end raw = c.as_bytes-front.ensures.value
    ∙ c.range.ensures.value ∙ (let size : c.args.region.end - 0 ≡ c.args.region.end =
    omega arith in ap (λ (n : ℕ). take n raw) size) in
    let start : c.past_parting-start.result ≡ region.start + prefix_len is_blank
    (slice_range raw region.start region.end) = returns-clause-start c in
    let size : length c.as_bytes-front.result.now ≡ region.end = ap length front
    ∙ (let within : region.end ≤ length raw = c.requires.end.0 in grind (arith, common_steps)) in
    trimmed_region raw region.start region.end c.past_parting-start.result c.blank_end-end.result c.requires.order
    c.requires.end.0 start (omega (arith, size, c.past_parting-start.ensures.cuttable.0))
    (c.blank_end-end.ensures.place ∙ ap (λ (bs : List ℕ).
    c.past_parting-start.result + length (without_blank_end (drop c.past_parting-start.result bs))) front)
