use Rattle.std.proofs.Common.{◌≡◌, ◌+◌, ◌∙◌, sym, ap, arith, rules, false, List, [], ◌++◌, ℕ, refl}
use Rattle.ps_model.specs.declared.texts.Section.TheVariants.{Objects}
use Rattle.ps_model.specs.text.Lines.{Line}
use Rattle.ps_model.specs.text.LineNumbers.{line_at}
use Rattle.ps_facts.specs.NamesShown.{is_own, own_line, own_lines_from}
use Rattle.ps_facts.proofs.OwnLines.{own-step}
use Rattle.ps_facts.proofs.object_lines.object_line_below.Goals as goal

pub loop-below-preserved : goal.loop-below-preserved
loop-below-preserved c =
    let text : List ℕ = c.args.source.now in
    let below : ℕ = c.loop-below.below in
    let other : is_own Objects (line_at text below) ≡ false = search rules in
    let none : own_line Objects (line_at text below) ≡ [] = rw other refl in
    sym (own-step text Objects below (below + 1) (omega arith) (omega arith) (omega arith)
    ∙ ap (λ (front : List Line). front ++ own_lines_from text Objects (below + 1)) none)
    ∙ c.loop-below.invariant
