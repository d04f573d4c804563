-- Where the cell one step on is.
use Rattle.std.proofs.Common.{◌≡◌, ◌≢◌, ℕ, ◌+◌, ◌-◌, ◌*◌, ◌/◌, ◌%◌, ◌<◌, ◌≤◌, Bool, true, false, Some, refl, arith}
use Rattle.std.specs.Prelude.{nat_lt}
use Rattle.std.proofs.Math.Nat.{div-add-mod, mul-le-mul_left}
use Rattle.std.proofs.lemmas.Nat.{div_below}
use Rattle.std.proofs.lemmas.Bool.Decides.{nat_tests}
use Rattle.ps_model.specs.declared.pieces.Direction.{Direction}
use Rattle.ps_model.specs.declared.pieces.Direction.TheVariants.{Up, Down, Left, Right}
use Rattle.ps_model.specs.board.Grid.{Grid, given, neighbour}

-- a number is given only if the test holds, and then that number
pub given-some : (b : Bool) (n m : ℕ) → given b n ≡ Some m → (b ≡ true) × (n ≡ m)
given-some true n m e = (refl, cc)
given-some false n m e = absurd (cc)

-- the neighbour is another cell of the board
pub neighbour-within : (g : Grid) (direction : Direction) (cell to : ℕ) → 0 < g.height → cell < g.width * g.height →
    neighbour g direction cell ≡ Some to →
    (to < g.width * g.height) × (to ≢ cell)
neighbour-within g Up cell to high within e =
    let found = given-some (nat_lt 0 (cell % g.height)) (cell - 1) to e in
    let test : 0 < cell % g.height = grind (arith, nat_tests, found.0) in
    let split = div-add-mod cell g.height in
    (omega (arith, found.1), omega (arith, found.1))
neighbour-within g Down cell to high within e =
    let found = given-some (nat_lt (cell % g.height + 1) g.height) (cell + 1) to e in
    let test : cell % g.height + 1 < g.height = grind (arith, nat_tests, found.0) in
    let split = div-add-mod cell g.height in
    let column : cell / g.height < g.width = div_below cell g.height g.width high within in
    let room : g.height * (cell / g.height + 1) ≤ g.height * g.width = mul-le-mul_left g.height (omega arith) in
    (grind (arith, found.1), omega (arith, found.1))
neighbour-within g Left cell to high within e =
    let found = given-some (nat_lt 0 (cell / g.height)) (cell - g.height) to e in
    let test : 0 < cell / g.height = grind (arith, nat_tests, found.0) in
    let split = div-add-mod cell g.height in
    let room : g.height * 1 ≤ g.height * (cell / g.height) = mul-le-mul_left g.height (omega arith) in
    (omega (arith, found.1), omega (arith, found.1))
neighbour-within g Right cell to high within e =
    let found = given-some (nat_lt (cell / g.height + 1) g.width) (cell + g.height) to e in
    let test : cell / g.height + 1 < g.width = grind (arith, nat_tests, found.0) in
    let split = div-add-mod cell g.height in
    let room : g.height * (cell / g.height + 2) ≤ g.height * g.width = mul-le-mul_left g.height (omega arith) in
    (grind (arith, found.1), omega (arith, found.1))
