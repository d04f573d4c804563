use Rattle.std.proofs.Common.{◌∙◌, ◌-◌, ℕ, List, length, append_assoc}
use Rattle.std.specs.Fmt.{decimal}
use Rattle.std.specs.List.{repeat}
use Rattle.std.specs.Prelude.{codes}
use Rattle.ps_why.proofs.Numbers.{in_six}
use Rattle.ps_why.proofs.page.number_shown.Goals as goal

pub returns : goal.returns
returns c =
    let digits : List ℕ = decimal c.args.line in
    c.in_ok-number.ensures.ok
    ∙ rw (c.laid_out.ensures, in_six digits)
    (append_assoc (repeat (6 - length digits) (codes " ")) digits (codes "  "))
