use Rattle.std.proofs.Common.{rules, tests, ◌∙◌, sym, ap, map}
use Rattle.std.proofs.lemmas.Iterator.Consumers.{map_from_collect}
use Rattle.std.proofs.lemmas.Iterator.Splits.{YieldsList-from_slice_split}
use Rattle.ps_model.specs.rules.RuleTree.{is_gap}
use Rattle.ps_rules.specs.CellsShown.{words_shown, cells_shown}
use Rattle.ps_rules.proofs.Cuts.{if_ok, cut-shown, parts-now}
use Rattle.ps_rules.proofs.parts.parted.Goals as goal

pub returns : goal.returns
returns c =
    if_ok c.collect.result (λ parts h. sym (parts-now words_shown parts.items) ∙ ap (map cells_shown) h
    ∙ cut-shown is_gap words_shown c.args.cells.now)
    (map_from_collect _ c.collect.ensures.ran (YieldsList-from_slice_split _ (λ cell.
    is_gap (words_shown cell)) c.args.cells.now c.split.ensures.rest c.split.ensures.done
    c.split.ensures.closure (λ x r q k. search (rules, tests))))
