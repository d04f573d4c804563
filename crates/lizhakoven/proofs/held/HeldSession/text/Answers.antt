use Rattle.std.proofs.Common.{◌≡◌, subst}
use Rattle.std.specs.Prelude.{IfOk}
use Rattle.ps_laws.specs.Fronts.{whole_front}
use Rattle.ps_model.specs.board.Turns.{script_at}
use Rattle.ps_run.specs.GameScripts.{script_shown}
use Rattle.lizhakoven.specs.HeldSessions.{HasText, HeldValue}
use Rattle.lizhakoven.proofs.HeldCalls.{held_of, held_same, text_each}
use Rattle.lizhakoven.proofs.SeenPlaces.{text_there}
use Rattle.lizhakoven.proofs.held.HeldSession.text.Goals as goal

pub returns : goal.returns
returns c =
    let own : HeldValue = held_of c.deref.result.now c.self.inside.entry c.deref-2.result.now in
    let same : own ≡ c.args.self.now =
    held_same c.deref.result.now c.self.inside.game.value c.self.inside.entry c.deref-2.result.now
    c.self.inside.keys.items c.args.self.now c.deref.ensures c.deref-2.ensures.value c.self.view_is in
    subst (λ (held : HeldValue). IfOk c.text_of_keys.result (λ wrote. HasText held wrote)) same
    (text_each c.text_of_keys.result own (λ text is. text_there c.text_of_keys.result
    (whole_front (script_shown c.script_at.result) c.deref-2.result.now)
    (whole_front (script_at c.deref.result.now c.self.inside.entry) c.deref-2.result.now)
    ((c.script_at.ensures.as_written text is).whole_fronts c.deref-2.result.now) c.text_of_keys.ensures))
