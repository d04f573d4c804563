use Rattle.std.proofs.Common.{◌≡◌, List, ℕ, ap, subst, sym}
use Rattle.std.specs.Prelude.{IfOk}
use Rattle.ps_model.specs.game.Games.{Game}
use Rattle.ps_model.specs.names.Names.{Names}
use Rattle.ps_run.specs.GameScripts.{script_shown}
use Rattle.ps_stage.specs.Standings.{SessionParts}
use Rattle.lizhakoven.specs.HeldSessions.{HeldValue, IsAt}
use Rattle.lizhakoven.specs.PlayedKeys.{ArePlayed, IsOfKeysIf}
use Rattle.lizhakoven.proofs.AsWritten.{kept_as_written, seen_as_written}
use Rattle.lizhakoven.proofs.Goings.{AreKept}
use Rattle.lizhakoven.proofs.HeldCalls.{at_each, held_of, held_same}
use Rattle.lizhakoven.proofs.held.HeldSession.look.Goals as goal

pub look_along-requires : goal.look_along-requires
look_along-requires c =
    subst (λ (names : Names). IsOfKeysIf names c.deref-2.result.now c.self.inside.played)
    (sym (ap (λ (parts : SessionParts). parts.names) c.script_at-script.ensures.parts))
    (rw (c.deref.ensures, c.deref-2.ensures.value) c.self.invariant.0)

pub returns-clause-seen : goal.returns-clause-seen
returns-clause-seen c =
    let own : HeldValue = held_of c.deref.result.now c.self.inside.entry c.deref-2.result.now in
    let same : own ≡ c.args.self.now =
    held_same c.deref.result.now c.self.inside.game.value c.self.inside.entry c.deref-2.result.now
    c.self.inside.keys.items c.args.self.now c.deref.ensures c.deref-2.ensures.value c.self.view_is in
    let played : ArePlayed c.deref.result.now c.self.inside.entry c.deref-2.result.now c.self.inside.played =
    rw (c.deref.ensures, c.deref-2.ensures.value) c.self.invariant.1 in
    subst (λ (held : HeldValue). IfOk c.look_along.result
    (λ seen. IsAt held c.args.cells.now c.look_along.new.cells seen)) same
    (at_each c.look_along.result own c.args.cells.now c.look_along.new.cells
    (seen_as_written c.look_along.result (script_shown c.script_at-script.result) c.script_at-script.result.game
    c.deref.result.now c.self.inside.entry c.deref-2.result.now c.args.cells.now c.look_along.new.cells
    c.self.inside.played c.script_at-script.ensures.parts c.script_at-script.ensures.as_written played
    c.look_along.ensures.seen))

pub invariant_of-self : goal.invariant_of-self
invariant_of-self c =
    let played : ArePlayed c.deref.result.now c.self.inside.entry c.deref-2.result.now c.self.inside.played =
    rw (c.deref.ensures, c.deref-2.ensures.value) c.self.invariant.1 in
    let kept : AreKept c.deref.result.now c.self.inside.entry c.deref-2.result.now c.look_along.new.played = (
      subst (λ (names : Names). IsOfKeysIf names c.deref-2.result.now c.look_along.new.played)
          (ap (λ (parts : SessionParts). parts.names) c.script_at-script.ensures.parts) c.look_along.ensures.of_keys,
      kept_as_written (script_shown c.script_at-script.result) c.deref.result.now c.self.inside.entry
          c.deref-2.result.now c.self.inside.played c.look_along.new.played c.script_at-script.ensures.as_written
          c.look_along.ensures.led_to played,
    ) in
    subst (λ (read : Game). AreKept read c.self.inside.entry c.self.inside.keys.items c.look_along.new.played)
    c.deref.ensures
    (subst (λ (keys : List ℕ). AreKept c.deref.result.now c.self.inside.entry keys c.look_along.new.played)
    c.deref-2.ensures.value kept)
