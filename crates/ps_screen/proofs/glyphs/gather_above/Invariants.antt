use Rattle.std.proofs.Common.{◌≡◌, take}
use Rattle.std.specs.Prelude.{filter, not}
use Rattle.ps_model.specs.board.Levels.{is_ground}
use Rattle.ps_screen.proofs.glyphs.gather_above.Given as goal

-- those of the objects passed by
abbrev pub invariant-loop-object : goal.invariant-loop-object
invariant-loop-object l = l.above.items ≡ filter (λ object.
    not (is_ground l.look object)) (take l.object-index l.objects)
