-- What a view begins with.
use Rattle.ps_view.specs.ToldGames.{known_of}
use Rattle.ps_view.proofs.viewed.Viewed.new.Given as goal

abbrev pub ghost-begin : goal.ghost-begin
ghost-begin g a = record {
  game = known_of a.game;
  size = a.size;
  keeps_size = g.S.SizeTeller.is_silent a.sizes;
  before = (g.W.ByteWriter.state a.writer.now).contents;
  reference = a.writer.ghost_name;
}
