use Rattle.std.proofs.Common.{◌∙◌, Option, Some, ap, subst}
use Rattle.lizhakoven.specs.Calls.{IsStarted}
use Rattle.lizhakoven.specs.OpenGames.{OpenGame}
use Rattle.lizhakoven.proofs.sessions.start_of.Goals as goal

pub returns-in-Err-clause-start : goal.returns-in-Err-clause-start
returns-in-Err-clause-start c = λ before.
    subst (λ (game : Option OpenGame). IsStarted game c.args.level before before c.in-Err.status)
    (ap (λ (held : OpenGame). Some held) c.deref.ensures ∙ c.in-Some.ensures.taken) (c.in-Err.ensures before)
