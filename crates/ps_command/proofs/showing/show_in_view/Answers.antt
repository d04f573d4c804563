-- The view began with the text's game, the size and the screen, and the screen that comes back is what it wrote to.
use Rattle.std.proofs.Common.{◌≡◌, ◌∙◌, sym, ap, subst, refl, inl, inr}
use Rattle.std.specs.Prelude.{is_none}
use Rattle.ps_view.specs.Games.{KnownGame}
use Rattle.ps_command.specs.Viewings.{ShowsInView}
use Rattle.ps_command.specs.ViewedGames.{IsToldOf}
use Rattle.ps_command.proofs.PlayedInView.{drawn_ok, drawn_stopped}
use Rattle.ps_command.specs.Stops.{StopsShow}
use Rattle.ps_command.proofs.ShownInView.{shown_in_view}
use Rattle.ps_command.proofs.showing.show_in_view.Goals as goal

pub returns : goal.returns
returns g c =
    let back : c.screen-1.given.0 ≡ c.show_from-shown.new.view.writer.now = c.screen-1.given.1
    (sym (c.into_writer-screen.ensures.same_reference ∙ c.show_from-shown.ensures.same_reference
    ∙ c.new-view.ensures.same_reference)) ∙ c.into_writer-screen.ensures.writer in
    let Told : KnownGame → Type 0 = λ known. IsToldOf c.args.text.now known.players known.heard in
    let began = c.new-view.ensures in
    record {
      shown = rw back (drawn_ok (ShowsInView c.args.text.now c.args.asked.output.now c.args.asked.size
          (is_none c.args.asked.sizes) (g.I.ByteReader.state c.args.input.now).remaining
          (g.I.ByteReader.state c.show_from-shown.new.input).remaining
          (g.O.ByteWriter.state c.args.screen.now).contents
          (g.O.ByteWriter.state c.show_from-shown.new.view.writer.now).contents)
          _ c.show_from-shown.result c.drawn.result _ c.drawn.ensures.short c.drawn.ensures.same
          (shown_in_view c.show_from-shown.result c.args.text.now c.args.asked.output.now c.args.asked.size
          (is_none c.args.asked.sizes) _ _ _ _ c.new-view.result.past.begun
          (record {
            known = subst Told (sym began.game) c.in_ok-game.ensures.told;
            sized = began.size;
            keeps = began.keeps_size ∙ ap is_none c.new-sizes.ensures;
            had = began.before;
          }) c.show_from-shown.ensures.shown));
      stopped = drawn_stopped StopsShow _ c.show_from-shown.result c.drawn.result _ c.drawn.ensures.short
          c.drawn.ensures.same (inl (inr refl)) c.show_from-shown.ensures.stopped;
    }
