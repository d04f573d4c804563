use Rattle.std.proofs.Common.{◌≡◌, List, take, true}
use Rattle.std.specs.List.{list_all}
use Rattle.std.proofs.lemmas.Option.{IfSome_then}
use Rattle.ps_model.specs.declared.pieces.ObjectId.{ObjectId}
use Rattle.ps_model.specs.board.Grid.{cell_at}
use Rattle.ps_model.specs.names.Names.{Names}
use Rattle.ps_model.specs.session.Frames.{objects_in}
use Rattle.ps_screen.specs.Glyphs.{stands_apart}
use Rattle.ps_screen.proofs.StandingApart.{alone_from_all}
use Rattle.ps_screen.proofs.cells.apart_character.Goals.{else-mixes-via-then-mixes+else-mixes_below, else-mixes-via-else-mixes}
use Rattle.ps_screen.proofs.cells.apart_character.Goals as goal

pub returns : goal.returns
returns g c =
    let names : Names = c.args.look.now in
    let below : List ObjectId = objects_in (take c.args.layer (cell_at (g.B.Board.grid c.args.board.now) c.args.cell)) in
    let apart : list_all (stands_apart names.glyphs c.args.object) below ≡ true = elim c.else-mixes.branch [
      | else-mixes-via-then-mixes+else-mixes_below w ↦ w.mixes_below.ensures w.if-mixes_below.false c.args.object
      | else-mixes-via-else-mixes w ↦
          alone_from_all names.glyphs c.args.object below (c.mixes.ensures w.if-mixes.false)
    ] in
    IfSome_then c.apart.result c.apart.ensures (λ character covers. covers below apart)
