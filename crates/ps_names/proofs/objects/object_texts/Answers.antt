use Rattle.std.proofs.Common.{◌++◌, ◌∙◌, sym, ap, List, ℕ, drop}
use Rattle.std.proofs.lemmas.List.{drop-drop}
use Rattle.ps_model.specs.names.ObjectLines.{objects_below}
use Rattle.ps_names.specs.LinesThere.{lines_at}
use Rattle.ps_names.specs.LinesShown.{objects_shown}
use Rattle.ps_names.proofs.common.Elements.{rest-of}
use Rattle.ps_names.proofs.objects.object_texts.Goals as goal

pub loop-at-preserved : goal.loop-at-preserved
loop-at-preserved c =
    let text : List ℕ = c.args.source.now in
    let lines : List ℕ = c.args.lines.now in
    let at : ℕ = c.loop-at.at in
    ap (λ (xs : List ℕ). objects_shown c.over.new.made.items ++ objects_below c.in_ok-above.above (lines_at text xs))
    (sym (drop-drop 1 at lines))
    ∙ ap (λ (xs : List ℕ). objects_shown c.over.new.made.items ++ objects_below c.in_ok-above.above
    (lines_at text (drop 1 xs))) (sym (rest-of lines at))
    ∙ c.in_ok-above.ensures
    ∙ ap (λ (xs : List ℕ). objects_shown c.loop-at.made.items ++ objects_below c.loop-at.above (lines_at text xs))
    (rest-of lines at)
    ∙ c.loop-at.invariant
