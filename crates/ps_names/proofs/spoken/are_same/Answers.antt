use Rattle.std.proofs.Common.{◌∙◌, sym}
use Rattle.ps_laws.proofs.common.SameThings.{same_object-true}
use Rattle.ps_names.proofs.mentions.MergedLaws.{equal-lists}
use Rattle.ps_names.proofs.spoken.are_same.Goals as goal

pub returns : goal.returns
returns c = λ e. equal-lists _ (λ a b s. same_object-true a b s) c.args.first.now c.args.second.now (sym c.eq.ensures
    ∙ e)
