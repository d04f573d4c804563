use Rattle.std.proofs.Common.{◌≡◌}
use Rattle.std.specs.List.{list_any}
use Rattle.ps_model.specs.declared.texts.Section.TheVariants.{Layers}
use Rattle.ps_facts.specs.LayerWords.{has_word}
use Rattle.ps_facts.specs.NamesShown.{own_lines_from}
use Rattle.ps_facts.proofs.layers.is_in_layers.Given as goal

-- the lines passed by haven't the word
abbrev pub invariant-loop-line : goal.invariant-loop-line
invariant-loop-line l = list_any (has_word l.name) (own_lines_from l.source Layers l.line) ≡ list_any (has_word l.name)
    (own_lines_from l.source Layers 1)
