use Rattle.std.proofs.Common.{◌≡◌, ◌∙◌, ◌+◌, List, [], ◌∷◌, Option, None, Some, map, option_map, drop, sym, ap}
use Rattle.std.proofs.Common.{add-one}
use Rattle.std.proofs.lemmas.List.{append-nil, at_drop_all, map-append}
use Rattle.ps_model.specs.text.OptionSteps.{all_there}
use Rattle.ps_model.specs.rules.RuleShape.{WrittenRow, row_of}
use Rattle.ps_rules.specs.Kinds.{parts_shown}
use Rattle.ps_rules.specs.ShapesShown.{behind, row_shown, rows_shown}
use Rattle.ps_rules.specs.SymbolsShown.{tokens_shown}
use Rattle.ps_rules.proofs.Loops.{drop-at}
use Rattle.ps_rules.proofs.Rows.{rows-more}
use Rattle.ps_rules.proofs.shapes.rows_of.Goals as goal

pub loop-part-preserved : goal.loop-part-preserved
loop-part-preserved c =
    let rows : List WrittenRow = rows_shown c.loop-part.rows.items in
    rows-more rows (rows_shown c.push.new.self.items) (row_shown c.in-Some.row)
    (row_of (tokens_shown c.part-item.result.now))
    (map row_of (parts_shown (drop (c.loop-part.part-index + 1) c.args.parts.now)))
    (sym c.in_ok-row.ensures ∙ ap (option_map row_shown) c.in-Some.is)
    (ap rows_shown c.in_ok-push.ensures.items ∙ map-append row_shown c.loop-part.rows.items (c.in-Some.row ∷ []))
    ∙ ap (λ ps. behind rows (all_there (map row_of (parts_shown ps))))
    (sym (drop-at c.part-item.result c.args.parts.now c.loop-part.part-index (c.loop-part.part-index + 1)
    c.loop-part-test.true c.part-item.is (add-one c.loop-part.part-index)))
    ∙ c.loop-part.invariant

pub returns-in_default : goal.returns-in_default
returns-in_default c =
    let rows : List WrittenRow = rows_shown c.loop-part.rows.items in
    let none : row_of (tokens_shown c.part-item.result.now) ≡ None =
    sym c.in_ok-row.ensures ∙ ap (option_map row_shown) c.in_default.is in
    ap (λ (first : Option WrittenRow). behind rows (all_there (first
    ∷ map row_of (parts_shown (drop (c.loop-part.part-index + 1) c.args.parts.now))))) (sym none)
    ∙ ap (λ ps. behind rows (all_there (map row_of (parts_shown ps))))
    (sym (drop-at c.part-item.result c.args.parts.now c.loop-part.part-index (c.loop-part.part-index + 1)
    c.loop-part-test.true c.part-item.is (add-one c.loop-part.part-index)))
    ∙ c.loop-part.invariant

pub returns : goal.returns
returns c =
    let rows : List WrittenRow = rows_shown c.loop-part.rows.items in
    ap Some (sym (append-nil rows))
    ∙ sym (at_drop_all (λ ps. behind rows (all_there (map row_of (parts_shown ps)))) c.args.parts.now
    c.loop-part.part-index c.loop-part-test.false) ∙ c.loop-part.invariant
