use Rattle.std.proofs.Common.{◌≡◌}
use Rattle.ps_stage.proofs.PartLoaded.{partly_loaded}
use Rattle.ps_stage.specs.Playable.{HaveOwnRoom}
use Rattle.ps_stage.proofs.loading.load.Given as goal

-- the cells passed by are loaded, each object has room, and the table is that of the names
abbrev pub invariant-loop-cell : goal.invariant-loop-cell
invariant-loop-cell g l =
    record {
      loaded : g.B.Board.grid l.board ≡ partly_loaded l.names l.level l.cell;
      room : HaveOwnRoom (g.B.Board.table l.board) l.names;
      table : g.B.Board.table l.board ≡ g.B.Board.table_for l.names.layers;
    }
