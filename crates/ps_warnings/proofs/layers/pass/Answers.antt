use Rattle.std.proofs.Common.{rules, ◌≡◌, ◌∙◌, List, ap, map, refl, sym, true}
use Rattle.std.specs.Prelude.{find}
use Rattle.ps_model.specs.text.LineNumbers.{line_at}
use Rattle.ps_text.specs.WordViews.{text_of}
use Rattle.ps_text.specs.declared.cutting.Word.{Word}
use Rattle.ps_warnings.specs.LayerWarnings.{is_elsewhere, objects_of_words}
use Rattle.ps_warnings.proofs.LayersPassed.{layer_here}
use Rattle.ps_warnings.proofs.layers.pass.Goals as goal

pub returns-clause-told : goal.returns-clause-told
returns-clause-told c =
    let text = c.args.facts.now.source.now in
    let names = c.args.facts.now.names.now in
    let there : (line_at text c.args.line).is_there ≡ true = search rules in
    layer_here text names c.args.facts.now.numbers.now c.args.line c.args.layer _ c.in_ok-found.found
    c.args.told.now.items c.warn_of.new.told.items c.requires.line.0 c.requires.line.1 there
    (sym c.is_blank_line.ensures ∙ c.if-is_blank_line.false)
    (c.in_ok-found.ensures
    ∙ ap (λ (words : List Word). find (is_elsewhere names c.args.layer) (objects_of_words names (map text_of words)))
    c.deref.ensures.value
    ∙ ap (λ words. find (is_elsewhere names c.args.layer) (objects_of_words names words)) c.in_ok-words.ensures.texts)
    refl c.in_ok-warn_of.ensures
