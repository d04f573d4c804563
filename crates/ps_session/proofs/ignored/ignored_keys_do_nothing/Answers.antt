use Rattle.ps_session.proofs.IgnoredSteps.{ignored_keys}
use Rattle.ps_session.proofs.ignored.ignored_keys_do_nothing.Goals as goal

pub returns : goal.returns
returns c = ignored_keys
