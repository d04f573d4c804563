use Rattle.std.proofs.Common.{◌≡◌, length, take}
use Rattle.ps_model.specs.names.Names.{is_among}
use Rattle.ps_screen.specs.Glyphs.{AreThinned}
use Rattle.ps_screen.proofs.covering.leave_out.Given as goal

-- the characters of the objects passed by are left out
abbrev pub invariant-loop-object : goal.invariant-loop-object
invariant-loop-object l =
    record {
      thinned : AreThinned (is_among (take l.object-index l.objects)) l.fn.characters l.characters;
      long : length l.characters ≡ length l.fn.characters;
    }
