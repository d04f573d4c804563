use Rattle.ps_names.specs.Shown.{meaning_shown}
use Rattle.ps_names.proofs.bounds.MembersBelow.{found_below}
use Rattle.ps_names.proofs.names.Names.meaning.Goals as goal

pub returns-clause-below : goal.returns-clause-below
returns-clause-below c = found_below _ _ c.args.name.now (λ m.
    meaning_shown m.now) c.find.result c.self.invariant.bounded c.self.view_is c.find.ensures
