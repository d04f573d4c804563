use Rattle.std.proofs.Common.{◌+◌, ◌∙◌, ap, List, ℕ, map, take, drop, get_or}
use Rattle.ps_text.specs.WordViews.{text_of}
use Rattle.ps_facts.specs.Counts.{cell_counts}
use Rattle.ps_causes.specs.RuleCauses.{IsArrowOf}
use Rattle.ps_names.proofs.common.Elements.{rest-of}
use Rattle.ps_causes.proofs.FoundSlips.{told-arrow}
use Rattle.ps_causes.proofs.counts.counts_told.Goals as goal

pub returns : goal.returns
returns c text line each texts =
    let before : List (List ℕ) = map text_of (take c.in-Some.at c.args.words.now) in
    let behind : List (List ℕ) = map text_of (drop (c.in-Some.at + 1) c.args.words.now) in
    let arrow : IsArrowOf text line (get_or c.args.words.now c.in-Some.at _) before behind =
    told-arrow text line c.args.words.now c.in-Some.at _ c.in-Some.ensures.within each texts
    (c.in-Some.ensures.there _) in
    c.differing.ensures text line before behind arrow (c.deref.ensures.value ∙ c.in_ok-left.ensures)
    (c.deref-2.ensures.value ∙ c.in_ok-right.ensures ∙ ap (λ words. cell_counts (map text_of words))
    (rest-of c.args.words.now (c.in-Some.at + 1)))
