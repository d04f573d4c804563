use Rattle.std.proofs.Common.{Option, subst}
use Rattle.lizhakoven.specs.declared.played_keys.PlayedKeys.{PlayedKeys}
use Rattle.lizhakoven.specs.PlayedKeys.{IsOfKeysIf}
use Rattle.lizhakoven.proofs.played_keys.copied_if.Goals as goal

pub returns-clause-of_keys : goal.returns-clause-of_keys
returns-clause-of_keys c = λ names bytes is.
    c.copied.ensures.of_keys names bytes
    (subst (λ (kept : Option PlayedKeys). IsOfKeysIf names bytes kept) c.in-Some.is is)

pub returns-clause-copy_of_keys : goal.returns-clause-copy_of_keys
returns-clause-copy_of_keys c = λ names bytes is.
    c.in_ok-copy.ensures.copy_of_keys names bytes
    (subst (λ (kept : Option PlayedKeys). IsOfKeysIf names bytes kept) c.in-Some.is is)

pub returns-in_err-copy-clause-of_keys : goal.returns-in_err-copy-clause-of_keys
returns-in_err-copy-clause-of_keys c = λ names bytes is.
    c.copied.ensures.of_keys names bytes
    (subst (λ (kept : Option PlayedKeys). IsOfKeysIf names bytes kept) c.in-Some.is is)
