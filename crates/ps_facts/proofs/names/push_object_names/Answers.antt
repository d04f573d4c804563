use Rattle.std.proofs.Common.{◌+◌, ◌++◌, ◌∙◌, sym, ap, arith, List}
use Rattle.std.proofs.lemmas.List.{append-nil}
use Rattle.ps_model.specs.declared.texts.Section.TheVariants.{Objects}
use Rattle.ps_model.specs.text.Lines.{Line}
use Rattle.ps_facts.specs.Declarations.{Declared}
use Rattle.ps_facts.specs.NamesShown.{names_shown, own_lines_from}
use Rattle.ps_facts.specs.Objects.{names_from}
use Rattle.ps_facts.proofs.ObjectNames.{objects-line_by_line}
use Rattle.ps_facts.proofs.OwnLines.{own-step, own-end}
use Rattle.ps_facts.proofs.names.push_object_names.Goals as goal

pub loop-line-preserved : goal.loop-line-preserved
loop-line-preserved c =
    let text : _ = c.args.source.now in
    let line : _ = c.loop-line.line in
    c.in_ok-place.ensures (own_lines_from text Objects (line + 1))
    ∙ ap (λ (xs : List Line). names_shown c.loop-line.names.items ++ names_from c.loop-line.place xs)
    (sym (own-step text Objects line (line + 1) (omega arith) (omega arith) (omega arith)))
    ∙ c.loop-line.invariant

pub returns : goal.returns
returns c =
    let text : _ = c.args.source.now in
    sym (ap (λ (xs : List Line). names_shown c.loop-line.names.items ++ names_from c.loop-line.place xs)
    (own-end text Objects c.loop-line.line (omega arith)) ∙ append-nil (names_shown c.loop-line.names.items))
    ∙ c.loop-line.invariant
    ∙ ap (λ (xs : List Declared). names_shown c.args.names.now.items ++ xs)
    (objects-line_by_line (own_lines_from text Objects 1))
