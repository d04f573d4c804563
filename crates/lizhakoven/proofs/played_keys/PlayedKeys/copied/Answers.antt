use Rattle.std.proofs.Common.{take}
use Rattle.ps_run.specs.SizedPlays.{rested_in}
use Rattle.lizhakoven.proofs.PlayedOn.{left_out}
use Rattle.lizhakoven.proofs.played_keys.PlayedKeys.copied.Goals as goal

pub returns-clause-copy_led_to : goal.returns-clause-copy_led_to
returns-clause-copy_led_to c = λ script bytes led.
    rw c.keys_again.ensures
    (left_out c.args.self.now.is_whole script (rested_in c.args.self.now.rested).session
    (rested_in c.in_ok-rested.rested).session c.args.self.now.keys (take c.args.self.now.count bytes)
    c.in_ok-rested.ensures.session led)
