-- A game that is played in a view: what the run wrote, and what the writer below has of it.
use Rattle.std.specs.Prelude.{ℕ, Bool, Some, List}
use Rattle.ps_model.specs.game.Tellings.{WriterState}
use Rattle.ps_view.specs.Pieces.{Piece, output_of}

-- a writer that tells the bytes of these pieces, and for the rest what a view tells
abbrev pub taker_of : List Piece → Bool → ℕ → ℕ → WriterState
taker_of pieces has_failed calls empty_calls = record {
  contents = Some (output_of pieces);
  has_failed = has_failed;
  calls = calls;
  empty_calls = empty_calls;
  short_calls = 0;
}
