-- Boards of the same size for the same game as the one that a packing was made from: what is packed, and unpacked.
use Rattle.std.proofs.Common.{◌≡◌, ℕ, ◌*◌, ◌<◌, ◌≤◌, Bool, List, length}
use Rattle.ps_board.specs.Rows.{DifferOnlyOn}
use Rattle.ps_rows.specs.PackedKeys.{AreTurned, KeepsKeys, Turned}
use Rattle.ps_rows.specs.Packings.{IsKey, Packed, packed, packed_grid}
use Rattle.ps_rows.specs.Planes.{AreEmptyFrom, row_of}
use Rattle.ps_rows.specs.Showing.{AreMotionsShown, AreObjectsShown, grid_shown}
use Rattle.ps_rows.specs.TurnedPlaces.{has_place, is_turned, keys_differ, rows_differ}
use Rattle.ps_rows.proofs.PackedBoards.{packed_key, packed_to, unpacked_grid, unpacked_motions, unpacked_objects}

module _ (table : List ℕ) (width height layers : ℕ) (start : List (List Bool)) (numbers : List ℕ) (count : ℕ) where
  abbrev made : Packed
  made = packed table width height layers start numbers count

  module _ (more : List ℕ) (counted : ℕ) (kept : KeepsKeys numbers count more counted) (words after : List ℕ)
      (rows : List Bool) (t t' : List ℕ) (w w' h h' l l' nw nh : ℕ) (from to : List (List Bool)) (own : t ≡ table)
      (wide : w ≡ width) (high : h ≡ height) (deep : l ≡ layers) (own' : t' ≡ t) (wide' : w' ≡ w) (high' : h' ≡ h)
      (deep' : l' ≡ l) (across : nw ≡ width) (down : nh ≡ height) (some : 0 < h) (key : IsKey made words)
      (here : grid_shown t w h l from ≡ packed_grid made words) (shown : AreObjectsShown t h from (w * h))
      (showing : AreObjectsShown t' h' to (w' * h')) (rest : AreEmptyFrom (length t' * h') to)
      (apart : DifferOnlyOn rows (grid_shown t w h l from) (grid_shown t' w' h' l' to))
      (turned : AreTurned (rows_differ nw nh (length t) from to rows) numbers words counted more after) where
    abbrev grown : Packed
    grown = packed table width height layers start more counted

    pub packed_alike : IsKey grown after × (packed_grid grown after ≡ grid_shown t' w' h' l' to)
    packed_alike =
        let one = rw (own, wide, high, deep) at here in
        let two = rw (own, wide, high) at shown in
        let three = rw (own', wide', high', own, wide, high) at showing in
        let four = rw (own', high', own, high) at rest in
        let five = rw (own', wide', high', deep', own, wide, high, deep) at apart in
        let six = rw (own, across, down) at turned in
        let seven = rw high at some in
        rw (own', wide', high', deep', own, wide, high, deep) (
          packed_key table width height layers start numbers count more counted kept words after rows from to seven key
              one two three four five six,
          packed_to table width height layers start numbers count more counted kept words after rows from to seven key
              one two three four five six,
        )

  module _ (words others : List ℕ) (t : List ℕ) (w h h' l ranges nw nh : ℕ) (before after : List (List Bool))
      (own : t ≡ table) (wide : w ≡ width) (high : h ≡ height) (deep : l ≡ layers) (listed : ranges ≡ l) (same : h' ≡ h)
      (across : nw ≡ width) (down : nh ≡ height) (some : 0 < h) (key : IsKey made words) (other : IsKey made others)
      (here : grid_shown t w h l before ≡ packed_grid made words) (shown : AreObjectsShown t h before (w * h))
      (moving : AreMotionsShown t l h before (w * h))
      (turned : Turned (is_turned t ranges (nw * nh) (keys_differ numbers words others)) (has_place nw nh before)
      (has_place nw nh after))
      (behind : (q : ℕ) → length t * h ≤ q → row_of after q ≡ row_of before q) where
    pub unpacked_alike : AreObjectsShown t h' after (w * h') × (AreMotionsShown t l h' after (w * h')
        × (grid_shown t w h' l after ≡ packed_grid made others))
    unpacked_alike =
        let one = rw (own, wide, high, deep) at here in
        let two = rw (own, wide, high) at shown in
        let three = rw (own, wide, high, deep) at moving in
        let four = rw (own, listed, deep, across, down) at turned in
        let five = rw (own, high) at behind in
        let six = rw high at some in
        rw (same, own, wide, high, deep) (
          unpacked_objects table width height layers start numbers count words others before after six key other one two
              three four five,
          (
            unpacked_motions table width height layers start numbers count words others before after six key other one
                two three four five,
            unpacked_grid table width height layers start numbers count words others before after six key other one two
                three four five,
          ),
        )
