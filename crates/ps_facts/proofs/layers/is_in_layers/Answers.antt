use Rattle.std.proofs.Common.{◌≡◌, ◌+◌, ◌∙◌, sym, ap, arith, rules, false}
use Rattle.std.specs.List.{list_any}
use Rattle.ps_model.specs.declared.texts.Section.TheVariants.{Layers}
use Rattle.ps_model.specs.text.LineNumbers.{line_at}
use Rattle.ps_facts.specs.LayerWords.{has_word}
use Rattle.ps_facts.specs.NamesShown.{own_line, own_lines_from}
use Rattle.ps_facts.proofs.OwnLines.{own-step, any-behind}
use Rattle.ps_facts.proofs.layers.is_in_layers.Goals as goal

pub loop-line-preserved : goal.loop-line-preserved
loop-line-preserved c =
    let text : _ = c.args.source.now in
    let line : _ = c.loop-line.line in
    let none : list_any (has_word c.args.name.now) (own_line Layers (line_at text line)) ≡ false = search rules in
    sym (ap (list_any (has_word c.args.name.now))
    (own-step text Layers line (line + 1) (omega arith) (omega arith) (omega arith))
    ∙ any-behind (has_word c.args.name.now) (own_line Layers (line_at text line))
    (own_lines_from text Layers (line + 1)) none)
    ∙ c.loop-line.invariant
