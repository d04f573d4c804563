use Rattle.ps_names.specs.Known.{mention_shown}
use Rattle.ps_names.specs.Ends.{EndsAt}
use Rattle.ps_names.proofs.standing.EndLaws.{one-before}
use Rattle.ps_names.proofs.ends.further.Goals as goal

pub returns-else-passed : goal.returns-else-passed
returns-else-passed c = λ legend mention next e is.
    let last : EndsAt legend next c.in-At.passed (mention_shown c.in-At.mention) = (rw c.in-At.is at is) in
    record {
      stands = one-before legend mention next (mention_shown c.in-At.mention) c.in-At.passed e last.stands;
      no_synonym = last.no_synonym;
    }
