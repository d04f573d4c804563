use Rattle.std.proofs.Common.{sym}
use Rattle.std.proofs.lemmas.Result.{on_ok_weaker}
use Rattle.ps_run.proofs.Playing.{if_ok}
use Rattle.ps_run.specs.GamesInPlay.{script_in}
use Rattle.lizhakoven.proofs.KeyedBytes.{key_written, silent_written}
use Rattle.lizhakoven.proofs.PlayedOn.{key_played, silent_played}
use Rattle.lizhakoven.proofs.keyed.play_byte.Goals as goal

pub returns-in-None-clause-played : goal.returns-in-None-clause-played
returns-in-None-clause-played c = λ is_whole read can had.
    rw c.next.ensures.held
    (silent_played is_whole (script_in c.args.play.now) c.args.play.now.session c.args.keys.now read c.args.byte
    (sym c.in-None.ensures.key) had)

pub returns-in-None-clause-wrote : goal.returns-in-None-clause-wrote
returns-in-None-clause-wrote c = λ read had.
    rw c.next.ensures.held
    (silent_written _ _ c.args.keys.now read c.args.byte c.args.output.now (sym c.in-None.ensures.key) had)

pub returns-in-Some-clause-played : goal.returns-in-Some-clause-played
returns-in-Some-clause-played c = on_ok_weaker c.key.result
    (λ stepped is_whole read can had.
    rw c.next.ensures.held
    (key_played is_whole (script_in c.args.play.now) c.args.play.now.session c.key.new.self.session c.args.keys.now
    read c.args.byte c.in-Some.key (sym c.in-Some.ensures.key) stepped can had))
    c.key.ensures.session

pub returns-in-Some-clause-wrote : goal.returns-in-Some-clause-wrote
returns-in-Some-clause-wrote c = if_ok c.key.result
    (λ stepped text read had.
    rw c.next.ensures.held
    (key_written _ _ _ c.args.keys.now read c.args.byte c.in-Some.key c.args.output.now c.key.new.output
    (sym c.in-Some.ensures.key) stepped text had))
    c.key.ensures.session c.key.ensures.text
