use Rattle.std.proofs.Common.{List, refl, subst}
use Rattle.std.specs.Prelude.{IfOk}
use Rattle.ps_laws.specs.Fronts.{session_of}
use Rattle.ps_model.specs.board.Turns.{Script}
use Rattle.ps_model.specs.names.Names.{Names}
use Rattle.ps_model.specs.session.LevelLines.{Entry}
use Rattle.ps_run.proofs.Scripts.{names_in}
use Rattle.ps_run.specs.GameScripts.{script_shown}
use Rattle.lizhakoven.specs.PlayedKeys.{AreLedToIf, IsOfKeys}
use Rattle.lizhakoven.specs.Places.{IsSeen}
use Rattle.lizhakoven.proofs.Goings.{within_if}
use Rattle.lizhakoven.proofs.PlayedOn.{seen_played}
use Rattle.lizhakoven.proofs.looking.look_along.Goals as goal

pub usable-before-requires : goal.usable-before-requires
usable-before-requires c =
    within_if c.args.script.game.names c.args.keys.now c.take.result (rw c.take.ensures.value c.requires)

pub play_keys-requires : goal.play_keys-requires
play_keys-requires c = record {
  of_keys = c.usable-before.ensures.of_keys c.args.script.game.names (rw c.take.ensures.value c.requires);
  goes_on = c.usable-before.ensures.goes_on;
}

pub returns-clause-of_keys : goal.returns-clause-of_keys
returns-clause-of_keys c =
    subst (λ (names : Names). IsOfKeys names c.args.keys.now c.of.result)
    (names_in c.in_ok-going.going.play c.args.script.game c.args.script.plain.now c.args.script.late.now
    c.in_ok-going.ensures.script)
    (c.of.ensures.of_keys c.args.keys.now refl)

pub returns-clause-led_to : goal.returns-clause-led_to
returns-clause-led_to c = λ led.
    let script : Script = script_shown c.args.script in
    let taken : AreLedToIf script c.args.keys.now c.take.result = rw c.take.ensures.value led in
    c.of.ensures.led_to script c.args.keys.now refl
    (c.in_ok-going.ensures.played (c.usable-before.ensures.led_to script taken))

pub returns-clause-seen : goal.returns-clause-seen
returns-clause-seen c = λ led.
    let going = c.in_ok-going.going in
    let script : Script = script_shown c.args.script in
    let taken : AreLedToIf script c.args.keys.now c.take.result = rw c.take.ensures.value led in
    subst (λ (entries : List Entry). IfOk c.see-seen.result (λ seen.
    IsSeen entries (session_of script c.args.keys.now) c.args.cells.now c.see-seen.new.cells seen))
    c.entries-entries.ensures.entries
    (seen_played _ going.is_whole script going.play.session going.keys c.args.keys.now c.args.cells.now
    c.see-seen.new.cells c.see-seen.result
    (c.in_ok-going.ensures.played (c.usable-before.ensures.led_to script taken))
    c.see-seen.ensures.seen)
