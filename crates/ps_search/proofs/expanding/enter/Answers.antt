use Rattle.std.proofs.Common.{sym}
use Rattle.ps_search.proofs.Keeping.{entered, kept_on}
use Rattle.ps_search.proofs.expanding.enter.Goals as goal

pub returns-in-Ok-clause-work : goal.returns-in-Ok-clause-work
returns-in-Ok-clause-work g c =
    entered _ _ _ _ _ _ _ c.go.ensures.kept _ _ _ _ _ c.in-Some.key.now _ c.requires.kept c.requires.below (sym c.in-Some.ensures.key) c.in-Ok.ensures.here

pub returns-in-Err-clause-kept : goal.returns-in-Err-clause-kept
returns-in-Err-clause-kept g c = kept_on _ _ _ _ _ _ _ c.go.ensures.kept _ _ _ _ _ c.requires.kept
