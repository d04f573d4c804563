use Rattle.std.proofs.Common.{◌≡◌, ◌≢◌, ◌∙◌, ◌++◌, ap, sym, arith, List, length}
use Rattle.std.proofs.lemmas.List.{append-nil}
use Rattle.ps_model.specs.declared.faults.Fault.{Fault as TheFault}
use Rattle.ps_model.specs.declared.limits.TheConstants.{ENTRY_LIMIT}
use Rattle.ps_model.specs.text.LineNumbers.{line_at}
use Rattle.ps_laws.proofs.common.LinesInOrder.{line_at-number}
use Rattle.ps_levels.proofs.EntrySteps.{under-limit}
use Rattle.ps_levels.proofs.ToldSteps.{over-told}
use Rattle.ps_levels.proofs.telling_levels.tell_too_many.Goals as goal

pub returns : goal.returns
returns c =
    let over : c.args.above ≡ ENTRY_LIMIT = omega arith in
    c.in_ok-push.ensures.items ∙ ap (λ (more : List TheFault). c.args.told.now.items ++ more)
    (over-told c.args.above c.args.line (line_at c.args.source.now c.args.line) over
    (line_at-number c.args.source.now c.args.line c.requires.0 c.requires.1))
