-- The movement of small boards of one layer, worked by hand: A goes right, B left, C up, D down, W stays.
use Rattle.std.proofs.Common.{◌≡◌, ℕ, List, [], ◌∷◌, map, refl}
use Rattle.ps_model.specs.declared.pieces.Direction.TheVariants.{Up, Down, Left, Right}
use Rattle.ps_model.specs.declared.pieces.Motion.TheVariants.{Still, Going}
use Rattle.ps_model.specs.declared.pieces.Slot.{Slot}
use Rattle.ps_model.specs.declared.pieces.Slot.TheVariants.{Bare, Holds}
use Rattle.ps_model.specs.board.Grid.{Grid, at_rest}
use Rattle.ps_model.specs.board.Movement.{slid}

abbrev A : Slot
A = Holds (record { 0 = 0 }) (Going Right)

abbrev B : Slot
B = Holds (record { 0 = 1 }) (Going Left)

abbrev C : Slot
C = Holds (record { 0 = 2 }) (Going Up)

abbrev D : Slot
D = Holds (record { 0 = 3 }) (Going Down)

abbrev W : Slot
W = Holds (record { 0 = 4 }) Still

-- a board of one layer, its slots column by column
abbrev board : ℕ → ℕ → List Slot → Grid
board width height slots = record { width = width; height = height; layers = 1; cells = map (λ slot. slot ∷ []) slots }

-- `A.B` becomes `.AB`: of two contenders for a bare cell the least wins
least_contender_wins : slid (board 3 1 (A ∷ Bare ∷ B ∷ [])) ≡ at_rest (board 3 1 (Bare ∷ A ∷ B ∷ []))
least_contender_wins = refl

-- `...` over `ACB` becomes `.C.` over `AB.`: for the cell that C leaves, the contender above its number wins
contender_above_wins : slid (board 3 2 (Bare ∷ A ∷ Bare ∷ C ∷ Bare ∷ B ∷ [])) ≡ at_rest
    (board 3 2 (Bare ∷ A ∷ C ∷ B ∷ Bare ∷ Bare ∷ []))
contender_above_wins = refl

-- `AB` stays: two objects never swap
no_swap : slid (board 2 1 (A ∷ B ∷ [])) ≡ at_rest (board 2 1 (A ∷ B ∷ []))
no_swap = refl

-- `AD` over `CB` stays: a ring never turns
no_ring : slid (board 2 2 (A ∷ C ∷ D ∷ B ∷ [])) ≡ at_rest (board 2 2 (A ∷ C ∷ D ∷ B ∷ []))
no_ring = refl

-- `AA.` becomes `.AA`, and `AAW` stays
chain_moves : slid (board 3 1 (A ∷ A ∷ Bare ∷ [])) ≡ at_rest (board 3 1 (Bare ∷ A ∷ A ∷ []))
chain_moves = refl

chain_stays : slid (board 3 1 (A ∷ A ∷ W ∷ [])) ≡ at_rest (board 3 1 (A ∷ A ∷ W ∷ []))
chain_stays = refl

-- nothing leaves the board
edge_stays : slid (board 2 2 (B ∷ D ∷ C ∷ A ∷ [])) ≡ at_rest (board 2 2 (B ∷ D ∷ C ∷ A ∷ []))
edge_stays = refl
