use Rattle.ps_laws.proofs.keys.KeysInPieces.{held_at_end, held_is_begun, held_is_silent}
use Rattle.ps_laws.proofs.laws_of_runs.held_bytes.Goals as goal

pub returns : goal.returns
returns c = record { at_end = held_at_end; begun = held_is_begun; silent = held_is_silent }
