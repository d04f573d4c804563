use Rattle.std.proofs.Common.{◌≡◌, ◌∙◌, sym, ap, refl, rules, true, Some, map}
use Rattle.std.proofs.lemmas.List.{map-append}
use Rattle.ps_model.specs.declared.texts.Section.TheVariants.{Legend}
use Rattle.ps_model.specs.declared.texts.Cut.TheVariants.{Legend as AtLegend}
use Rattle.ps_model.specs.names.LegendLines.{name_declared}
use Rattle.ps_model.specs.text.LineNumbers.{line_at}
use Rattle.ps_model.specs.text.Words.{word_texts}
use Rattle.ps_text.specs.WordViews.{text_of}
use Rattle.ps_laws.proofs.common.LinesInOrder.{line_at-number}
use Rattle.ps_facts.specs.NamesShown.{is_own}
use Rattle.ps_facts.proofs.names.push_legend_name.Goals as goal

pub returns : goal.returns
returns c =
    let own : is_own Legend (line_at c.args.source.now c.args.line) ≡ true = search rules in
    let name : name_declared (word_texts AtLegend (line_at c.args.source.now c.args.line).bytes) ≡ Some
    c.in-Some.name.now =
    sym (c.in-Some.ensures ∙ ap (λ items. name_declared (map text_of items)) c.deref.ensures.value
    ∙ ap name_declared c.in_ok-words.ensures.texts) in
    rw (
      c.in_ok-push.ensures.items,
      map-append,
      own,
      name,
      line_at-number c.args.source.now c.args.line c.requires.0 c.requires.1,
    ) refl
