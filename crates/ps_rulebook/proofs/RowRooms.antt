-- A board of rows of bits keeps the layer of each object, and so has room for each on its own.
use Rattle.std.proofs.Common.{ℕ, List, refl}
use Rattle.std.specs.Prelude.{Some}
use Rattle.ps_board.specs.Rooms.{layer_numbers}
use Rattle.ps_rows.proofs.Whole.{have_room}
use Rattle.ps_rulebook.specs.PlayedGames.{GivesRoom}

pub rows_give_room : GivesRoom (λ (layers : List ℕ). Some layers)
rows_give_room layers = have_room (layer_numbers layers) layers refl
