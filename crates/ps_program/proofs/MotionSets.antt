-- Sets of the motions that tests ask for.
use Rattle.std.proofs.Common.{◌≡◌, ◌∙◌, ℕ, ◌<◌, suc, ◌||◌, Bool, true, false, List, [], ◌∷◌, Option, Some, None}
use Rattle.std.proofs.Common.{length, take, get_or, refl, sym, ap, arith, ◌+◌, ◌*◌, ◌%◌}
use Rattle.std.specs.Prelude.{if◌then◌else◌, nat_eq, option_map}
use Rattle.std.specs.List.{list_any, Contains}
use Rattle.std.proofs.Math.Bool.{or-false}
use Rattle.std.proofs.Math.Seq.{take-suc}
use Rattle.std.proofs.lemmas.Bool.{eqb-true, false≢true}
use Rattle.std.proofs.lemmas.List.Folds.{list_any-append}
use Rattle.std.proofs.lemmas.Nat.{mod_below}
use Rattle.std.proofs.lemmas.Option.{same_Some}
use Rattle.ps_model.specs.declared.pieces.Direction.TheVariants.{Up, Down, Left, Right}
use Rattle.ps_model.specs.declared.pieces.Motion.{Motion}
use Rattle.ps_model.specs.declared.pieces.Motion.TheVariants.{Still, Going, Acting}
use Rattle.ps_model.specs.declared.compiled.MotionTest.{MotionTest}
use Rattle.ps_model.specs.declared.limits.TheConstants.{SIDE_LIMIT}
use Rattle.ps_board.specs.ColumnSets.{column_at, columns_where}
use Rattle.ps_board.proofs.ColumnLaws.{column_at-where, columns-again, columns-agree}
use Rattle.ps_program.specs.MotionSets.{asks_for, is_place, motion_place, place_on_layer}
use Rattle.ps_program.specs.MotionSets.{places_asked, with_place}
use Rattle.ps_program.specs.declared.motion_sets.TheConstants.{MOTIONS, PLACED_LAYERS}
use Rattle.ps_program.proofs.FittingMasks.{found-in, Sought}

-- places --------------------------------------------------------------------------------------------------------------

low_on_layer : (motion : Motion) (place : ℕ) → place_on_layer motion ≡ Some place → place < MOTIONS
low_on_layer Still place e = absurd (cc)
low_on_layer (Going Up) place e = let is : 0 ≡ place = same_Some 0 place e in omega (arith, is)
low_on_layer (Going Down) place e = let is : 1 ≡ place = same_Some 1 place e in omega (arith, is)
low_on_layer (Going Left) place e = let is : 2 ≡ place = same_Some 2 place e in omega (arith, is)
low_on_layer (Going Right) place e = let is : 3 ≡ place = same_Some 3 place e in omega (arith, is)
low_on_layer Acting place e = let is : 4 ≡ place = same_Some 4 place e in omega (arith, is)

low_among : (layer : ℕ) (found : Option ℕ) (place : ℕ) → ((own : ℕ) → found ≡ Some own → own < MOTIONS) →
    option_map (λ own. MOTIONS * (layer % PLACED_LAYERS) + own) found ≡ Some place → place < MOTIONS * PLACED_LAYERS
low_among layer None place low e = absurd (cc)
low_among layer (Some own) place low e =
    let is : MOTIONS * (layer % PLACED_LAYERS) + own ≡ place =
    same_Some (MOTIONS * (layer % PLACED_LAYERS) + own) place e in
    omega (arith, is, mod_below layer PLACED_LAYERS (omega arith), low own refl)

-- each place is one of those that there are
pub place_low : (layer : ℕ) (motion : Motion) (place : ℕ) → motion_place layer motion ≡ Some place →
    place < MOTIONS * PLACED_LAYERS
place_low layer motion place e = low_among layer (place_on_layer motion) place (low_on_layer motion) e

-- one more test -------------------------------------------------------------------------------------------------------

either_way : (own there : Bool) → (if own then true else there) ≡ (there || own)
either_way true true = refl
either_way true false = refl
either_way false true = refl
either_way false false = refl

-- what is in a set with a place more
place_in : (motions : List Bool) (found : Option ℕ) (x : ℕ) → x < SIDE_LIMIT →
    column_at (with_place motions found) x ≡ (column_at motions x || is_place x found)
place_in motions None x low = sym (or-false (column_at motions x))
place_in motions (Some own) x low =
    column_at-where (λ y. if nat_eq y own then true else column_at motions y) x low
    ∙ either_way (nat_eq x own) (column_at motions x)

-- such a set by what is in it
set_again : (motions : List Bool) (holds : ℕ → Bool) (found : Option ℕ) → motions ≡ columns_where holds →
    with_place motions found ≡ columns_where (column_at (with_place motions found))
set_again motions holds None is =
    is ∙ sym (columns-again holds) ∙ sym (ap (λ (set : List Bool). columns_where (column_at set)) is)
set_again motions holds (Some own) is = sym (columns-again (λ y. if nat_eq y own then true else column_at motions y))

-- what one test more asks for
any_more : (x : ℕ) (tests : List MotionTest) (k : ℕ) (d : MotionTest) → k < length tests →
    list_any (asks_for x) (take (suc k) tests)
    ≡ (list_any (asks_for x) (take k tests) || asks_for x (get_or tests k d))
any_more x tests k d low =
    let test : MotionTest = get_or tests k d in
    ap (list_any (asks_for x)) (take-suc tests k d low)
    ∙ list_any-append (asks_for x) (take k tests) (test ∷ [])
    ∙ ap (λ (b : Bool). list_any (asks_for x) (take k tests) || b) (or-false (asks_for x test))

pub asked_more : (tests : List MotionTest) (k next : ℕ) (d : MotionTest) (motions more : List Bool) →
    k < length tests → next ≡ suc k → motions ≡ places_asked (take k tests) →
    more ≡ with_place motions (motion_place (get_or tests k d).layer.0 (get_or tests k d).motion) →
    more ≡ places_asked (take next tests)
asked_more tests k next d motions more low is before with =
    let test : MotionTest = get_or tests k d in
    let found : Option ℕ = motion_place test.layer.0 test.motion in
    let were : ℕ → Bool = λ place. list_any (asks_for place) (take k tests) in
    with ∙ set_again motions were found before
    ∙ columns-agree (column_at (with_place motions found)) (λ place. list_any (asks_for place) (take (suc k) tests))
    (λ x under. place_in motions found x under
    ∙ ap (λ (b : Bool). b || is_place x found)
    (ap (λ (set : List Bool). column_at set x) before ∙ column_at-where were x under)
    ∙ sym (any_more x tests k d low))
    ∙ ap (λ (n : ℕ). places_asked (take n tests)) (sym is)

-- who asks for a motion -----------------------------------------------------------------------------------------------

-- a test of a list that asks for the motion with a place
abbrev pub Asks : List MotionTest → ℕ → Type 0
Asks tests place =
    (test : MotionTest) × (Contains tests test × (motion_place test.layer.0 test.motion ≡ Some place))

is_there : (place : ℕ) (found : Option ℕ) → is_place place found ≡ true → found ≡ Some place
is_there place None e = absurd (false≢true e)
is_there place (Some own) e = ap Some (sym (eqb-true place own e))

who_asks : (tests : List MotionTest) (place : ℕ) → Sought (asks_for place) tests → Asks tests place
who_asks tests place (test, there, asks) =
    (test, (there, is_there place (motion_place test.layer.0 test.motion) asks))

-- what is in the set of them is asked for by one
pub one_asks : (tests : List MotionTest) (motions : List Bool) (place : ℕ) → motions ≡ places_asked tests →
    place < SIDE_LIMIT → column_at motions place ≡ true → Asks tests place
one_asks tests motions place is low on =
    who_asks tests place (found-in (asks_for place) tests
    (sym (ap (λ (set : List Bool). column_at set place) is
    ∙ column_at-where (λ x. list_any (asks_for x) tests) place low) ∙ on))
