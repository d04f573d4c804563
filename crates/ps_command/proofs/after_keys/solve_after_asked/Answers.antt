use Rattle.std.proofs.Common.{List, ℕ, Option, ap, subst, sym}
use Rattle.std.proofs.lemmas.Result.{on_ok_weaker}
use Rattle.ps_devices.specs.Devices.{Loses}
use Rattle.ps_command.specs.SearchedAfter.{IsLineOnWon, LacksStart, LeadNowhere}
use Rattle.ps_command.proofs.LinesOnLed.{silent_on_read, told_of_read}
use Rattle.ps_command.proofs.after_keys.solve_after_asked.Goals as goal

pub returns-clause-won : goal.returns-clause-won
returns-clause-won g c =
    let had : Option (List ℕ) = (g.I.ByteReader.state c.args.input.now).remaining in
    let between : Option (List ℕ) = (g.I.ByteReader.state c.read_text.new.input).remaining in
    let left : Option (List ℕ) = (g.I.ByteReader.state c.read_keys.new.input).remaining in
    on_ok_weaker c.solve_led.result
    (λ told. told_of_read c.args.asked IsLineOnWon c.question_of.result had between left c.deref.result.now
    c.deref-2.result.now (g.O.ByteWriter.state c.args.screen.now).contents
    (g.O.ByteWriter.state c.solve_led.new.screen).contents c.question_of.ensures
    (λ game. subst (λ (t : List ℕ). Loses had between t) (sym c.deref.ensures.value) (c.in_ok-text.ensures.read game))
    (λ others. ap (λ input. (g.I.ByteReader.state input).remaining) (c.in_ok-text.ensures.unasked others))
    (λ own. subst (λ (t : List ℕ). Loses between left t) (sym c.deref-2.ensures.value) (c.in_ok-keys.ensures.read own))
    (λ others. ap (λ input. (g.I.ByteReader.state input).remaining) (c.in_ok-keys.ensures.unasked others)) told)
    c.solve_led.ensures.won

pub returns-clause-nowhere : goal.returns-clause-nowhere
returns-clause-nowhere g c = λ same.
    let had : Option (List ℕ) = (g.I.ByteReader.state c.args.input.now).remaining in
    let between : Option (List ℕ) = (g.I.ByteReader.state c.read_text.new.input).remaining in
    let left : Option (List ℕ) = (g.I.ByteReader.state c.read_keys.new.input).remaining in
    silent_on_read c.args.asked LeadNowhere c.question_of.result had between left c.deref.result.now
    c.deref-2.result.now (g.O.ByteWriter.state c.args.screen.now).contents
    (g.O.ByteWriter.state c.solve_led.new.screen).contents c.question_of.ensures
    (λ game. subst (λ (t : List ℕ). Loses had between t) (sym c.deref.ensures.value) (c.in_ok-text.ensures.read game))
    (λ others. ap (λ input. (g.I.ByteReader.state input).remaining) (c.in_ok-text.ensures.unasked others))
    (λ own. subst (λ (t : List ℕ). Loses between left t) (sym c.deref-2.ensures.value) (c.in_ok-keys.ensures.read own))
    (λ others. ap (λ input. (g.I.ByteReader.state input).remaining) (c.in_ok-keys.ensures.unasked others))
    (c.solve_led.ensures.nowhere same)

pub returns-clause-lacking : goal.returns-clause-lacking
returns-clause-lacking g c = λ level levels same.
    let had : Option (List ℕ) = (g.I.ByteReader.state c.args.input.now).remaining in
    let between : Option (List ℕ) = (g.I.ByteReader.state c.read_text.new.input).remaining in
    let left : Option (List ℕ) = (g.I.ByteReader.state c.read_keys.new.input).remaining in
    silent_on_read c.args.asked (LacksStart level levels) c.question_of.result had between left c.deref.result.now
    c.deref-2.result.now (g.O.ByteWriter.state c.args.screen.now).contents
    (g.O.ByteWriter.state c.solve_led.new.screen).contents c.question_of.ensures
    (λ game. subst (λ (t : List ℕ). Loses had between t) (sym c.deref.ensures.value) (c.in_ok-text.ensures.read game))
    (λ others. ap (λ input. (g.I.ByteReader.state input).remaining) (c.in_ok-text.ensures.unasked others))
    (λ own. subst (λ (t : List ℕ). Loses between left t) (sym c.deref-2.ensures.value) (c.in_ok-keys.ensures.read own))
    (λ others. ap (λ input. (g.I.ByteReader.state input).remaining) (c.in_ok-keys.ensures.unasked others))
    (c.solve_led.ensures.lacking level levels same)
