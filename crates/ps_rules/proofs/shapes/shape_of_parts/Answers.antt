use Rattle.std.proofs.Common.{◌∙◌, List, option_map, sym, ap}
use Rattle.std.specs.Borrow.{Bor}
use Rattle.ps_model.specs.rules.RuleShape.{shape_of_parts}
use Rattle.ps_rules.specs.declared.symbols.Token.{Token}
use Rattle.ps_rules.specs.Kinds.{parts_shown}
use Rattle.ps_rules.specs.ShapesShown.{side_shown}
use Rattle.ps_rules.specs.SymbolsShown.{tokens_shown}
use Rattle.ps_rules.proofs.TwoParts.{two-parts, shape-there, shape-without-left, shape-without-right}
use Rattle.ps_rules.proofs.shapes.shape_of_parts.Goals as goal

pub returns-in_default-2 : goal.returns-in_default-2
returns-in_default-2 c =
    sym (ap (λ (parts : List (Bor (List Token))). shape_of_parts (parts_shown parts))
    (two-parts c.args.parts.now c.before-item.result c.behind-item.result c.in-len2.len_at_least c.in-len2.len_below
    c.before-item.is c.behind-item.is)
    ∙ shape-without-left (tokens_shown c.before-item.result.now) (tokens_shown c.behind-item.result.now)
    (sym c.in_ok-left.ensures ∙ ap (option_map side_shown) c.in_default-2.is))

pub returns-in_default-3 : goal.returns-in_default-3
returns-in_default-3 c =
    sym (ap (λ (parts : List (Bor (List Token))). shape_of_parts (parts_shown parts))
    (two-parts c.args.parts.now c.before-item.result c.behind-item.result c.in-len2.len_at_least c.in-len2.len_below
    c.before-item.is c.behind-item.is)
    ∙ shape-without-right (tokens_shown c.before-item.result.now) (tokens_shown c.behind-item.result.now)
    (side_shown c.in-Some.left) (sym c.in_ok-left.ensures ∙ ap (option_map side_shown) c.in-Some.is)
    (sym c.in_ok-right.ensures ∙ ap (option_map side_shown) c.in_default-3.is))

pub returns : goal.returns
returns c =
    sym (ap (λ (parts : List (Bor (List Token))). shape_of_parts (parts_shown parts))
    (two-parts c.args.parts.now c.before-item.result c.behind-item.result c.in-len2.len_at_least c.in-len2.len_below
    c.before-item.is c.behind-item.is)
    ∙ shape-there (tokens_shown c.before-item.result.now) (tokens_shown c.behind-item.result.now)
    (side_shown c.in-Some.left) (side_shown c.in-Some-2.right)
    (sym c.in_ok-left.ensures ∙ ap (option_map side_shown) c.in-Some.is)
    (sym c.in_ok-right.ensures ∙ ap (option_map side_shown) c.in-Some-2.is))
