use Rattle.std.proofs.Common.{sym, subst, Err}
use Rattle.ps_stage.specs.declared.stops.Stop.{Stop}
use Rattle.ps_stage.specs.declared.stops.Stop.TheVariants.{Elsewhere}
use Rattle.ps_run.specs.GamesInPlay.{IsKeyed}
use Rattle.ps_run.specs.SizedPlays.{play_in}
use Rattle.ps_run.proofs.Turned.{turned_as, turned_here, turned_in, turned_not, turned_there}
use Rattle.ps_run.proofs.game_play.GamePlay.key.Goals as goal

pub returns-in-Ok : goal.returns-in-Ok
returns-in-Ok c =
    turned_as _ _ _ _ _ _ _ c.self.view_is
    (turned_in c.self.inside.script.game c.self.inside.script.plain.now c.self.inside.script.late.now _ _ c.args.key _
    _ _ c.self.invariant (turned_here _ _ _ _ _ _ _ c.in-Ok.ensures))

pub returns-in-Err-Memory : goal.returns-in-Err-Memory
returns-in-Err-Memory c =
    turned_as _ _ _ _ _ _ _ c.self.view_is
    (turned_in c.self.inside.script.game c.self.inside.script.plain.now c.self.inside.script.late.now _ _ c.args.key _
    _ _ c.self.invariant (turned_not _ _ _ _ _ _ _ _ c.in-Err-Memory.ensures))

pub returns : goal.returns
returns c =
    let keyed : IsKeyed (play_in c.self.inside.play) (play_in c.key.new.self) c.args.key c.args.output.now
    c.key.new.output (Err (Elsewhere c.in-Err-Elsewhere.entry)) =
    subst (λ (stop : Stop). IsKeyed (play_in c.self.inside.play) (play_in c.key.new.self) c.args.key c.args.output.now
    c.key.new.output (Err stop)) c.in-Err-Elsewhere.field-0-is c.in-Err-Elsewhere.ensures in
    turned_as _ _ _ _ _ _ _ c.self.view_is
    (turned_in c.self.inside.script.game c.self.inside.script.plain.now c.self.inside.script.late.now _ _ c.args.key _
    _ _ c.self.invariant (turned_there _ _ _ _ _ _ _ c.in-Err-Elsewhere.entry _ _ (sym c.self.invariant) keyed
    c.in_ok-go_on.ensures.begun))
