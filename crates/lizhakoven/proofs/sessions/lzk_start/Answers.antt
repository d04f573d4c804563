use Rattle.std.proofs.Common.{Option, subst, sym}
use Rattle.lizhakoven.specs.declared.statuses.Status.TheVariants.{Done}
use Rattle.lizhakoven.specs.Calls.{HasStarted, IsStarted}
use Rattle.lizhakoven.specs.HeldSessions.{HeldValue}
use Rattle.lizhakoven.proofs.sessions.lzk_start.Goals as goal

pub returns-in-Ok-clause-started : goal.returns-in-Ok-clause-started
returns-in-Ok-clause-started c =
    let is : IsStarted c.args.game.now.value c.args.level c.args.session.now.value c.put.new.self.value Done =
    subst (λ (owned : Option HeldValue). HasStarted c.args.game.now.value c.args.level owned) (sym c.put.ensures)
    c.in-Ok.ensures.start in
    (Done, c.number.ensures, is)

pub returns-in-Err-clause-started : goal.returns-in-Err-clause-started
returns-in-Err-clause-started c =
    (c.in-Err.status, c.number-in-Err.ensures, c.in-Err.ensures.start c.args.session.now.value)
