use Rattle.std.proofs.Common.{◌≡◌, length}
use Rattle.ps_model.specs.board.Levels.{is_ground}
use Rattle.ps_screen.specs.Glyphs.{AreThinned}
use Rattle.ps_screen.proofs.covering.above_ground.Given as goal

-- a character, or none, for each number passed by
abbrev pub invariant-loop-number : goal.invariant-loop-number
invariant-loop-number l =
    record {
      long : length l.above.items ≡ l.number;
      thinned : AreThinned (λ object. is_ground l.names object) l.single l.above.items;
    }
