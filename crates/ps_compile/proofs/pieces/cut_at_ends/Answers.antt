use Rattle.std.proofs.Common.{rules, tests, ◌∙◌, sym, ap, map}
use Rattle.std.proofs.lemmas.Iterator.Consumers.{map_from_collect}
use Rattle.std.proofs.lemmas.Iterator.Splits.{YieldsList-from_slice_split}
use Rattle.ps_model.specs.board.RulePrograms.{is_end}
use Rattle.ps_rules.specs.RulesShown.{line_shown, lines_shown}
use Rattle.ps_rules.proofs.Cuts.{if_ok, cut-shown, parts-now}
use Rattle.ps_compile.proofs.pieces.cut_at_ends.Goals as goal

pub returns : goal.returns
returns c =
    if_ok c.collect.result (λ parts h. sym (parts-now line_shown parts.items) ∙ ap (map lines_shown) h
    ∙ cut-shown is_end line_shown c.args.lines.now)
    (map_from_collect _ c.collect.ensures.ran (YieldsList-from_slice_split _ (λ line.
    is_end (line_shown line)) c.args.lines.now c.split.ensures.rest c.split.ensures.done
    c.split.ensures.closure (λ x r q k. search (rules, tests))))
