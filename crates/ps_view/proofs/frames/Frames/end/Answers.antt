use Rattle.std.proofs.Common.{◌≡◌, ◌∙◌, List, ℕ, ap, ap₂, sym}
use Rattle.std.specs.Global.{Global}
use Rattle.std.specs.Str.{bytes_eq}
use Rattle.std.specs.declared.rc.Rc.{Rc}
use Rattle.std.proofs.lemmas.List.Elements.{All-nil}
use Rattle.ps_view.specs.Corners.{cell_width}
use Rattle.ps_view.specs.Frames.{texts_of}
use Rattle.ps_view.specs.Players.{first_player, player_place}
use Rattle.ps_view.specs.declared.frame_rows.FrameRow.{FrameRow}
use Rattle.ps_view.proofs.AlikeRows.{alike_nothing}
use Rattle.ps_view.proofs.frames.Frames.end.Goals as goal

pub invariant_of-self : goal.invariant_of-self
invariant_of-self c =
    let players = c.self.inside.players.items in
    record {
      last_rows = rw c.swap.ensures.x_after c.self.invariant.begun_rows;
      begun_rows = rw c.clear.ensures.items
          (All-nil (λ (row : Rc FrameRow Global). row.value.player ≡ player_place players row.value.text));
      seen = c.player_in-self-inside.ensures
          ∙ ap₂ (λ (shown : List ℕ) (rows : List (Rc FrameRow Global)). first_player shown (texts_of rows))
          c.deref.ensures.value c.deref-2.ensures.value;
      wide = c.cell_width-self-inside.ensures.width
          ∙ ap (λ (rows : List (Rc FrameRow Global)). cell_width (texts_of rows)) c.deref-3.ensures.value;
      some = c.cell_width-self-inside.ensures.some;
      same = rw c.clear.ensures.items (sym (alike_nothing bytes_eq (texts_of c.swap.new.x.items)));
    }
