use Rattle.std.proofs.Common.{◌∙◌, Some, ap, sym}
use Rattle.lizhakoven.specs.HeldSessions.{HeldValue}
use Rattle.lizhakoven.proofs.HeldCalls.{look_told}
use Rattle.lizhakoven.proofs.sessions.look_in.Goals as goal

pub returns-in-Ok-clause-looked : goal.returns-in-Ok-clause-looked
returns-in-Ok-clause-looked c =
    look_told c.args.cells.now c.look-looked.new.cells c.args.session.now.value c.in-Ok.seen.place
    c.in-Ok.seen.is_told c.of_told.result c.of_told.ensures (
      c.deref_mut.result.now,
      sym c.in-Some.ensures.taken ∙ ap (λ (held : HeldValue). Some held) (sym c.deref_mut.ensures.value),
      c.in-Ok.ensures.seen,
    )
