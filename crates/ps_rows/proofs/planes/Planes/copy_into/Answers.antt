use Rattle.std.proofs.Common.{◌≡◌, ◌∙◌, ◌*◌, Bool, List, ap, subst, sym}
use Rattle.std.specs.Vec.{vec_len}
use Rattle.ps_rows.specs.Planes.{AreSameFrom}
use Rattle.ps_rows.proofs.planes.Planes.copy_into.Goals as goal

pub note_all-requires : goal.note_all-requires
note_all-requires g c =
    record {
      height = sym c.requires.height;
      count = sym c.requires.count;
    }

pub copy_noted-requires : goal.copy_noted-requires
copy_noted-requires g c =
    let p = c.args.self.now in
    let S : List (List Bool) → Type 0 = AreSameFrom (c.args.planes * p.height) p.words.items in
    record {
      height = c.note_all.ensures.height ∙ c.requires.height;
      count = c.note_all.ensures.count ∙ c.requires.count;
      within = c.requires.within;
      rest = subst S (sym c.note_all.ensures.words) c.requires.rest;
      uses = c.note_all.ensures.uses;
    }
