-- Who enters a cell: its four neighbours, by their directions and in the order of their numbers.
use Rattle.std.proofs.Common.{◌≡◌, ℕ, ◌+◌, ◌-◌, ◌*◌, ◌/◌, ◌%◌, ◌<◌, ◌≤◌, true, Option, Some, None, refl}
use Rattle.std.proofs.Common.{◌∙◌, ap, arith}
use Rattle.std.specs.Prelude.{IfSome, nat_lt}
use Rattle.std.proofs.Math.Nat.{mod-lt, mul-le-mul}
use Rattle.std.proofs.lemmas.Bool.Decides.{nat_tests}
use Rattle.std.proofs.lemmas.Nat.{div-add-mod', div_below, div-mul-add, mod-mul-add}
use Rattle.ps_model.specs.declared.pieces.Direction.{Direction}
use Rattle.ps_model.specs.declared.pieces.Direction.TheVariants.{Up, Down, Left, Right}
use Rattle.ps_model.specs.declared.pieces.Motion.TheVariants.{Still, Going, Acting}
use Rattle.ps_model.specs.declared.pieces.ObjectId.{ObjectId}
use Rattle.ps_model.specs.declared.pieces.Slot.{Slot}
use Rattle.ps_model.specs.declared.pieces.Slot.TheVariants.{Bare, Holds}
use Rattle.ps_model.specs.board.Grid.{Grid, IsGrid, motion_in, neighbour, slot_at}
use Rattle.ps_model.specs.board.Movement.{target}
use Rattle.ps_model.specs.meaning.Directions.{opposite}
use Rattle.ps_model.specs.meaning.Fitting.{same_motion}
use Rattle.ps_laws.proofs.common.Neighbours.{given-some}
use Rattle.ps_move.specs.Entering.{Comes, IsFirst, IsNext, IsWantedByNone}
use Rattle.ps_move.proofs.Order.{aim_some, aims_from}
use Rattle.ps_move.proofs.Ends.{aims_within}

-- the neighbour of a neighbour, the direction back
pub neighbour_back : (g : Grid) (direction : Direction) (a b : ℕ) → IsGrid g → a < g.width * g.height →
    neighbour g direction a ≡ Some b → neighbour g (opposite direction) b ≡ Some a
neighbour_back g Up a b shape within e =
    let found = given-some (nat_lt 0 (a % g.height)) (a - 1) b e in
    let test : 0 < a % g.height = grind (arith, nat_tests, found.0) in
    let split = div-add-mod' a g.height in
    let low : a % g.height < g.height = mod-lt a shape.some_row in
    let row : ℕ = a % g.height - 1 in
    let at : b ≡ a / g.height * g.height + row = omega (arith, found.1, split, test) in
    let rest : b % g.height ≡ row = ap (λ (n : ℕ). n % g.height) at
    ∙ mod-mul-add (a / g.height) g.height row (omega (arith, low)) in
    let room : nat_lt (b % g.height + 1) g.height ≡ true = grind (arith, nat_tests, rest, low, test) in
    let back : b + 1 ≡ a = omega (arith, found.1, split, test) in
    rw (room, back) refl
neighbour_back g Down a b shape within e =
    let found = given-some (nat_lt (a % g.height + 1) g.height) (a + 1) b e in
    let test : a % g.height + 1 < g.height = grind (arith, nat_tests, found.0) in
    let split = div-add-mod' a g.height in
    let row : ℕ = a % g.height + 1 in
    let at : b ≡ a / g.height * g.height + row = omega (arith, found.1, split) in
    let rest : b % g.height ≡ row = ap (λ (n : ℕ). n % g.height) at
    ∙ mod-mul-add (a / g.height) g.height row test in
    let room : nat_lt 0 (b % g.height) ≡ true = grind (arith, nat_tests, rest) in
    let back : b - 1 ≡ a = omega (arith, found.1) in
    rw (room, back) refl
neighbour_back g Left a b shape within e =
    let found = given-some (nat_lt 0 (a / g.height)) (a - g.height) b e in
    let test : 0 < a / g.height = grind (arith, nat_tests, found.0) in
    let split = div-add-mod' a g.height in
    let low : a % g.height < g.height = mod-lt a shape.some_row in
    let column : ℕ = a / g.height - 1 in
    let one : a / g.height ≡ column + 1 = omega (arith, test) in
    let next : (column + 1) * g.height ≡ column * g.height + g.height = omega arith in
    let wide : a / g.height * g.height ≡ column * g.height + g.height = ap (λ (n : ℕ). n * g.height) one ∙ next in
    let at : b ≡ column * g.height + a % g.height = omega (arith, found.1, split, wide) in
    let rest : b / g.height ≡ column = ap (λ (n : ℕ). n / g.height) at
    ∙ div-mul-add column g.height (a % g.height) low in
    let across = div_below a g.height g.width shape.some_row within in
    let room : nat_lt (b / g.height + 1) g.width ≡ true = grind (arith, nat_tests, rest, one, across) in
    let back : b + g.height ≡ a = omega (arith, found.1, split, wide) in
    rw (room, back) refl
neighbour_back g Right a b shape within e =
    let found = given-some (nat_lt (a / g.height + 1) g.width) (a + g.height) b e in
    let split = div-add-mod' a g.height in
    let low : a % g.height < g.height = mod-lt a shape.some_row in
    let column : ℕ = a / g.height + 1 in
    let wide : column * g.height ≡ a / g.height * g.height + g.height = omega arith in
    let at : b ≡ column * g.height + a % g.height = omega (arith, found.1, split, wide) in
    let rest : b / g.height ≡ column = ap (λ (n : ℕ). n / g.height) at
    ∙ div-mul-add column g.height (a % g.height) low in
    let room : nat_lt 0 (b / g.height) ≡ true = grind (arith, nat_tests, rest) in
    let back : b - g.height ≡ a = omega (arith, found.1) in
    rw (room, back) refl

pub neighbour_on : (g : Grid) (direction : Direction) (a b : ℕ) → IsGrid g → a < g.width * g.height →
    neighbour g (opposite direction) a ≡ Some b → neighbour g direction b ≡ Some a
neighbour_on g Up a b shape within e = neighbour_back g Down a b shape within e
neighbour_on g Down a b shape within e = neighbour_back g Up a b shape within e
neighbour_on g Left a b shape within e = neighbour_back g Right a b shape within e
neighbour_on g Right a b shape within e = neighbour_back g Left a b shape within e

-- where an object comes from that goes in a direction
abbrev pub IsFrom : ℕ → Direction → ℕ → ℕ → Type 0
IsFrom height Up from to = from ≡ to + 1
IsFrom height Down from to = from + 1 ≡ to
IsFrom height Left from to = from ≡ to + height
IsFrom height Right from to = from + height ≡ to

from_of : (g : Grid) (direction : Direction) (from to : ℕ) → IsGrid g → neighbour g direction from ≡ Some to →
    IsFrom g.height direction from to
from_of g Up from to shape e =
    let found = given-some (nat_lt 0 (from % g.height)) (from - 1) to e in
    let test : 0 < from % g.height = grind (arith, nat_tests, found.0) in
    let split = div-add-mod' from g.height in
    omega (arith, found.1, split, test)
from_of g Down from to shape e =
    let found = given-some (nat_lt (from % g.height + 1) g.height) (from + 1) to e in found.1
from_of g Left from to shape e =
    let found = given-some (nat_lt 0 (from / g.height)) (from - g.height) to e in
    let test : 0 < from / g.height = grind (arith, nat_tests, found.0) in
    let split = div-add-mod' from g.height in
    let room : 1 * g.height ≤ from / g.height * g.height =
    mul-le-mul test (let le : g.height ≤ g.height = omega arith in le) in
    omega (arith, found.1, split, room)
from_of g Right from to shape e =
    let found = given-some (nat_lt (from / g.height + 1) g.width) (from + g.height) to e in found.1

-- no object comes in a direction
abbrev pub NoneComes : Grid → ℕ → ℕ → Direction → Type 0
NoneComes g layer to direction = (from : ℕ) → Comes g layer to direction from → ⊥

pub aims_by_coming : (g : Grid) (layer to : ℕ) (direction : Direction) (from : ℕ) → Comes g layer to direction from →
    target g layer from ≡ Some to
aims_by_coming g layer to direction from c = aims_from g layer from to c.1.0 direction c.1.1 c.1.2

-- whoever wants to enter a cell comes in some direction
module _ (g : Grid) (layer to : ℕ) (shape : IsGrid g) (P : ℕ → Type 0) where
  by_direction : ((from : ℕ) → Comes g layer to Up from → P from) → ((from : ℕ) → Comes g layer to Down from → P from) →
      ((from : ℕ) → Comes g layer to Left from → P from) → ((from : ℕ) → Comes g layer to Right from → P from) →
      (direction : Direction) (from : ℕ) → Comes g layer to direction from → P from
  by_direction up down left right Up from c = up from c
  by_direction up down left right Down from c = down from c
  by_direction up down left right Left from c = left from c
  by_direction up down left right Right from c = right from c

  pub for_each : ((from : ℕ) → Comes g layer to Up from → P from) → ((from : ℕ) → Comes g layer to Down from → P from) →
      ((from : ℕ) → Comes g layer to Left from → P from) → ((from : ℕ) → Comes g layer to Right from → P from) →
      (from : ℕ) → target g layer from ≡ Some to → P from
  for_each up down left right from aims =
      let found = aim_some g from (slot_at g from layer) to aims in
      by_direction up down left right found.1 from
      (aims_within g layer from to shape aims, (found.0, found.2, found.3))

-- none wants to
pub wanted_by_none : (g : Grid) (layer to : ℕ) → IsGrid g → NoneComes g layer to Up → NoneComes g layer to Down →
    NoneComes g layer to Left → NoneComes g layer to Right → IsWantedByNone g layer to
wanted_by_none g layer to shape up down left right = for_each g layer to shape (λ from. ⊥) up down left right

module _ (g : Grid) (layer to from : ℕ) (shape : IsGrid g) where
  own : (direction : Direction) → Comes g layer to direction from → IsFrom g.height direction from to
  own direction c = from_of g direction from to shape c.1.2

  other : (direction : Direction) (s : ℕ) → Comes g layer to direction s → IsFrom g.height direction s to
  other direction s c = from_of g direction s to shape c.1.2

  first_by : (direction : Direction) → Comes g layer to direction from →
      ((s : ℕ) → target g layer s ≡ Some to → from ≤ s) → IsFirst g layer to from
  first_by direction c least =
      record { place = c.0; aims = aims_by_coming g layer to direction from c; least = least }

  -- the first, where it comes in each of the directions and none comes in those before
  pub first_right : Comes g layer to Right from → IsFirst g layer to from
  first_right c =
      let at = own Right c in
      let row = shape.some_row in
      first_by Right c (for_each g layer to shape (λ s. from ≤ s)
      (λ s d. let e = other Up s d in omega (arith, at, e))
      (λ s d. let e = other Down s d in omega (arith, at, e, row))
      (λ s d. let e = other Left s d in omega (arith, at, e))
      (λ s d. let e = other Right s d in omega (arith, at, e)))

  pub first_down : NoneComes g layer to Right → Comes g layer to Down from → IsFirst g layer to from
  first_down right c =
      let at = own Down c in
      first_by Down c (for_each g layer to shape (λ s. from ≤ s)
      (λ s d. let e = other Up s d in omega (arith, at, e))
      (λ s d. let e = other Down s d in omega (arith, at, e))
      (λ s d. let e = other Left s d in omega (arith, at, e))
      (λ s d. absurd (right s d)))

  pub first_up : NoneComes g layer to Right → NoneComes g layer to Down → Comes g layer to Up from →
      IsFirst g layer to from
  first_up right down c =
      let at = own Up c in
      let row = shape.some_row in
      first_by Up c (for_each g layer to shape (λ s. from ≤ s)
      (λ s d. let e = other Up s d in omega (arith, at, e))
      (λ s d. absurd (down s d))
      (λ s d. let e = other Left s d in omega (arith, at, e, row))
      (λ s d. absurd (right s d)))

  pub first_left : NoneComes g layer to Right → NoneComes g layer to Down → NoneComes g layer to Up →
      Comes g layer to Left from → IsFirst g layer to from
  first_left right down up c =
      let at = own Left c in
      first_by Left c (for_each g layer to shape (λ s. from ≤ s)
      (λ s d. absurd (up s d))
      (λ s d. absurd (down s d))
      (λ s d. let e = other Left s d in omega (arith, at, e))
      (λ s d. absurd (right s d)))

  -- what is to be known of each other one for the next
  abbrev IsLater : ℕ → Type 0
  IsLater s = (s < from → s < to) × (s < from → to < from) × (from ≤ to → s < to)

  next_by : (direction : Direction) → Comes g layer to direction from →
      ((s : ℕ) → target g layer s ≡ Some to → IsLater s) → IsNext g layer to from
  next_by direction c later = record {
    place = c.0;
    aims = aims_by_coming g layer to direction from c;
    behind = λ s a. (later s a).0;
    over = λ s a. (later s a).1;
    ahead = λ s a. (later s a).2;
  }

  -- the next, where it comes in each of the directions and none comes in those before
  pub next_up : Comes g layer to Up from → IsNext g layer to from
  next_up c =
      let at = own Up c in
      let row = shape.some_row in
      next_by Up c (for_each g layer to shape IsLater
      (λ s d. let e = other Up s d in
      (λ h. omega (arith, at, e), λ h. omega (arith, at), λ h. absurd (omega (arith, at))))
      (λ s d. let e = other Down s d in
      (λ h. omega (arith, e), λ h. omega (arith, at), λ h. absurd (omega (arith, at))))
      (λ s d. let e = other Left s d in
      (λ h. absurd (omega (arith, at, e, row)), λ h. omega (arith, at), λ h. absurd (omega (arith, at))))
      (λ s d. let e = other Right s d in
      (λ h. omega (arith, e, row), λ h. omega (arith, at), λ h. absurd (omega (arith, at)))))

  pub next_left : NoneComes g layer to Up → Comes g layer to Left from → IsNext g layer to from
  next_left up c =
      let at = own Left c in
      let row = shape.some_row in
      next_by Left c (for_each g layer to shape IsLater
      (λ s d. absurd (up s d))
      (λ s d. let e = other Down s d in
      (λ h. omega (arith, e), λ h. omega (arith, at, row), λ h. absurd (omega (arith, at, row))))
      (λ s d. let e = other Left s d in
      (λ h. omega (arith, at, e), λ h. omega (arith, at, row), λ h. absurd (omega (arith, at, row))))
      (λ s d. let e = other Right s d in
      (λ h. omega (arith, e, row), λ h. omega (arith, at, row), λ h. absurd (omega (arith, at, row)))))

  pub next_right : NoneComes g layer to Up → NoneComes g layer to Left → Comes g layer to Right from →
      IsNext g layer to from
  next_right up left c =
      let at = own Right c in
      let row = shape.some_row in
      next_by Right c (for_each g layer to shape IsLater
      (λ s d. absurd (up s d))
      (λ s d. let e = other Down s d in
      (λ h. omega (arith, e), λ h. absurd (omega (arith, at, e, h, row)), λ h. omega (arith, e)))
      (λ s d. absurd (left s d))
      (λ s d. let e = other Right s d in
      (λ h. omega (arith, e, row), λ h. absurd (omega (arith, at, e, h)), λ h. omega (arith, e, row))))

  pub next_down : NoneComes g layer to Up → NoneComes g layer to Left → NoneComes g layer to Right →
      Comes g layer to Down from → IsNext g layer to from
  next_down up left right c =
      let at = own Down c in
      next_by Down c (for_each g layer to shape IsLater
      (λ s d. absurd (up s d))
      (λ s d. let e = other Down s d in
      (λ h. omega (arith, e), λ h. absurd (omega (arith, at, e, h)), λ h. omega (arith, e)))
      (λ s d. absurd (left s d))
      (λ s d. absurd (right s d)))

-- the object of a slot by its motion
pub goes_there : (slot : Slot) (direction : Direction) → Going direction ≡ motion_in slot →
    (object : ObjectId) × (slot ≡ Holds object (Going direction))
goes_there Bare direction e = absurd (cc)
goes_there (Holds object Still) direction e = absurd (cc)
goes_there (Holds object (Going other)) direction e =
    let same : other ≡ direction = cc in (object, ap (λ (d : Direction). Holds object (Going d)) same)
goes_there (Holds object Acting) direction e = absurd (cc)

own_motion : (direction : Direction) → same_motion (Going direction) (Going direction) ≡ true
own_motion Up = refl
own_motion Down = refl
own_motion Left = refl
own_motion Right = refl

pub going_is_own : (object : ObjectId) (direction : Direction) (slot : Slot) →
    slot ≡ Holds object (Going direction) → same_motion (Going direction) (motion_in slot) ≡ true
going_is_own object direction slot e =
    ap (λ (s : Slot). same_motion (Going direction) (motion_in s)) e ∙ own_motion direction

-- what holds of some number has something else hold of it
pub if_some : (P Q : ℕ → Type 0) → ((x : ℕ) → P x → Q x) → (o : Option ℕ) → IfSome o P → IfSome o Q
if_some P Q so None p = p
if_some P Q so (Some x) p = so x p
