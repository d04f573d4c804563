use Rattle.std.proofs.Common.{sym, ◌∙◌, ap, Err}
use Rattle.ps_run.proofs.Gathering.{byte_stops, key_byte, silent_byte}
use Rattle.ps_run.proofs.Playing.{if_ok, if_err}
use Rattle.ps_run.proofs.play.Play.play_byte.Goals as goal

pub returns-in-None-clause-played : goal.returns-in-None-clause-played
returns-in-None-clause-played g c = λ before first read played.
    rw c.next.ensures.held
    (silent_byte _ before _ _ c.args.self.now.keys _ first read c.args.byte (sym c.in-None.ensures.key) played)

pub returns-in-Some-clause-played : goal.returns-in-Some-clause-played
returns-in-Some-clause-played g c = if_ok c.play_key.result
    (λ session gathered before first read played.
    rw (c.play_key.ensures.keys, c.next.ensures.held)
    (key_byte _ before _ _ _ _ c.args.self.now.keys _ _ first read c.args.byte c.in-Some.key
    (sym c.in-Some.ensures.key) session gathered played))
    c.play_key.ensures.session c.play_key.ensures.gathered

pub returns-in-Some-clause-stops : goal.returns-in-Some-clause-stops
returns-in-Some-clause-stops g c = if_err c.play_key.result
    (λ fault is stops before first piece i within same played.
    byte_stops fault _ before _ _ _ c.args.self.now.keys _ first piece i c.args.byte c.in-Some.key
    (sym c.in-Some.ensures.key) (λ memory. c.play_key.ensures.heeded (is ∙ ap Err memory)) stops within same played)
    c.play_key.ensures.stops
