use Rattle.ps_laws.proofs.keys.HeldKeys.{one_byte_more}
use Rattle.ps_laws.proofs.keys.KeysInPieces as keys
use Rattle.ps_laws.proofs.laws_of_runs.keys_in_pieces.Goals as goal

pub returns : goal.returns
returns c = record {
  pieces = keys.keys_in_pieces;
  piece_by_piece = keys.read_piece_by_piece;
  byte_by_byte =
      keys.read_byte_by_byte;
  one_byte_more = one_byte_more;
}
