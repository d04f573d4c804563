use Rattle.std.proofs.Common.{◌≡◌, length, take, true}
use Rattle.std.specs.Prelude.{slice_index_or}
use Rattle.ps_model.specs.declared.pieces.ObjectId.{ObjectId}
use Rattle.ps_model.specs.names.Names.{is_among}
use Rattle.ps_screen.specs.Glyphs.{StayNoted}
use Rattle.ps_screen.proofs.mixing.note_members.Given as goal

-- the objects passed by are noted, and what was noted stays so
abbrev pub invariant-loop-object : goal.invariant-loop-object
invariant-loop-object l =
    record {
      noted : (object : ObjectId) → is_among (take l.object-index l.objects) object ≡ true →
          slice_index_or l.mixes object.0 true ≡ true;
      kept : StayNoted l.fn.mixes l.mixes;
      long : length l.mixes ≡ length l.fn.mixes;
    }
