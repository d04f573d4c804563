use Rattle.std.proofs.Common.{◌≡◌, ◌∙◌, ◌++◌, List, OnOk, ap, subst, sym}
use Rattle.ps_model.specs.text.Lines.{lines_of}
use Rattle.ps_facts.specs.Declarations.{Declared, declared, legend_names, object_names}
use Rattle.ps_facts.specs.NamesShown.{names_shown}
use Rattle.ps_warnings.specs.ObjectWarnings.{warned_by}
use Rattle.ps_warnings.proofs.UnusedTold.{none_of_used}
use Rattle.ps_warnings.proofs.objects.warn_of_objects.Goals as goal

pub returns-then-are_all : goal.returns-then-are_all
returns-then-are_all c =
    none_of_used c.args.names.now c.args.used.now
    (object_names (lines_of c.args.source.now) ++ legend_names (lines_of c.args.source.now)) c.args.told.now.items
    c.requires.bounded c.requires.each (sym c.are_all.ensures ∙ c.if-are_all.true)

pub returns : goal.returns
unfolding declared
returns c =
    subst (λ (names : List Declared). OnOk c.warn_of_each.result (c.warn_of_each.new.told.items
    ≡ c.args.told.now.items ++ warned_by c.args.names.now c.args.used.now names))
    (ap names_shown c.deref.ensures.value ∙ c.in_ok-declared.ensures) c.warn_of_each.ensures
