use Rattle.std.proofs.Common.{◌∙◌, ℕ, take, ap}
use Rattle.std.proofs.lemmas.List.{take_min}
use Rattle.ps_report.proofs.pages.first_faults.Goals as goal

pub returns : goal.returns
returns c = ap (λ (n : ℕ). take n c.args.told.now) c.min.ensures ∙ take_min c.args.most c.args.told.now
