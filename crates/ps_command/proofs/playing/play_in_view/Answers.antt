-- The view began with the text's game, the size and the screen, and the screen that comes back is what it wrote to.
use Rattle.std.proofs.Common.{◌≡◌, ◌∙◌, sym, ap, subst}
use Rattle.std.specs.Prelude.{is_none}
use Rattle.ps_view.specs.Games.{KnownGame}
use Rattle.ps_command.specs.Viewings.{EndsInView}
use Rattle.ps_command.specs.ViewedGames.{IsToldOf}
use Rattle.ps_command.proofs.PlayedInView.{drawn_ok, drawn_stopped, in_view}
use Rattle.ps_command.proofs.TasksStopped.{memory_play}
use Rattle.ps_command.specs.Stops.{StopsPlay}
use Rattle.ps_command.proofs.playing.play_in_view.Goals as goal

pub returns : goal.returns
returns g c =
    let back : c.screen-1.given.0 ≡ c.show_from-played.new.view.writer.now = c.screen-1.given.1
    (sym (c.into_writer-screen.ensures.same_reference ∙ c.show_from-played.ensures.same_reference
    ∙ c.new-view.ensures.same_reference)) ∙ c.into_writer-screen.ensures.writer in
    let Told : KnownGame → Type 0 = λ known. IsToldOf c.args.sized.start.text.now known.players known.heard in
    let began = c.new-view.ensures in
    record {
      ended = rw back (drawn_ok (EndsInView c.args.sized.start.asked.level c.args.sized.start.text.now c.args.sized.size
          (is_none c.args.sized.start.asked.sizes) (g.O.ByteWriter.state c.args.screen.now).contents
          (g.O.ByteWriter.state c.show_from-played.new.view.writer.now).contents)
          _ c.show_from-played.result c.drawn.result _ c.drawn.ensures.short c.drawn.ensures.same
          (in_view c.show_from-played.result c.args.sized.start.asked.level c.args.sized.start.text.now c.args.sized.size
          (is_none c.args.sized.start.asked.sizes) _ _ c.new-view.result.past.begun c.new-view.result.past.pieces
          c.new-view.result.calls c.new-view.result.empty_calls
          (record {
            known = subst Told (sym began.game) c.in_ok-game.ensures.told;
            sized = began.size;
            keeps = began.keeps_size ∙ ap is_none c.new-sizes.ensures;
            had = began.before;
          }) began.pieces began.calls began.empty_calls c.show_from-played.ensures.ended));
      stopped = drawn_stopped (StopsPlay c.args.sized.start.asked.level) _ c.show_from-played.result c.drawn.result _
          c.drawn.ensures.short c.drawn.ensures.same (memory_play c.args.sized.start.asked.level)
          c.show_from-played.ensures.stopped;
    }
