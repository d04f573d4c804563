-- Lines on the first levels of a text, and one more.
use Rattle.std.proofs.Common.{◌≡◌, ◌∙◌, ℕ, ◌+◌, ◌&&◌, Bool, true, false, Option, List, [], ◌∷◌, ◌++◌, length}
use Rattle.std.proofs.Common.{refl, sym, ap, subst, arith, append_assoc}
use Rattle.std.specs.List.{list_all}
use Rattle.std.proofs.lemmas.List.{append-nil, length-append}
use Rattle.ps_devices.proofs.Pieces.{grows_twice}
use Rattle.ps_devices.proofs.Unmoved.{nothing_taken}
use Rattle.ps_answers.specs.SolvedLevels.{is_won}
use Rattle.ps_answers.specs.SolvedTexts.{IsSolvedLevel}
use Rattle.ps_answers.specs.TellsLevels.{AreLinesOnFirst, AreSolved, IsLineOnLevel, Telling, Tells, level_lines}
use Rattle.ps_answers.specs.declared.solved.Solved.{Solved}

-- one more answer
solved_more : (text : List ℕ) (limit level at : ℕ) (all : List Solved) (one : Solved) → at ≡ level + length all →
    AreSolved text limit level all → IsSolvedLevel text at limit one → AreSolved text limit level (all ++ one ∷ [])
solved_more text limit level at [] one is all here =
    (subst (λ (n : ℕ). IsSolvedLevel text n limit one) (omega (arith, is)) here, tt)
solved_more text limit level at (first ∷ rest) one is all here =
    (all.0, solved_more text limit (level + 1) at rest one (omega (arith, is)) all.1 here)

-- one more line
lines_more : (tell : Telling) (level at : ℕ) (all : List Solved) (one : Solved) → at ≡ level + length all →
    level_lines tell level (all ++ one ∷ []) ≡ level_lines tell level all ++ tell at one
lines_more tell level at [] one is =
    let here : at ≡ level = omega (arith, is) in rw here (append-nil (tell level one))
lines_more tell level at (first ∷ rest) one is =
    ap (λ (more : List ℕ). tell level first ++ more) (lines_more tell (level + 1) at rest one (omega (arith, is)))
    ∙ sym (append_assoc (tell level first) (level_lines tell (level + 1) rest) (tell at one))

and_true : (a : Bool) → (a && true) ≡ a
and_true true = refl
and_true false = refl

and_shift : (a b c d : Bool) → d ≡ (b && c) → (a && d) ≡ ((a && b) && c)
and_shift true b c d is = is
and_shift false b c d is = refl

-- all are won: those before, and one more
won_more : (all : List Solved) (one : Solved) → list_all is_won (all ++ one ∷ []) ≡ (list_all is_won all && is_won one)
won_more [] one = and_true (is_won one)
won_more (first ∷ rest) one =
    and_shift (is_won first) (list_all is_won rest) (is_won one) (list_all is_won (rest ++ one ∷ [])) (won_more rest one)

-- none so far
pub first_none : (text : List ℕ) (tell : Telling) (limit : ℕ) (before : Option (List ℕ)) →
    Tells (AreLinesOnFirst text tell limit 0 true) before before
first_none text tell limit before =
    record {
      lines = [];
      are = record { solved = []; many = refl; right = tt; answers = refl; are = refl };
      wrote = nothing_taken before;
    }

-- one more level
pub first_more : (text : List ℕ) (tell : Telling) (limit count : ℕ) (all_won won : Bool)
    (before between after : Option (List ℕ)) →
    Tells (AreLinesOnFirst text tell limit count all_won) before between →
    Tells (IsLineOnLevel text tell limit (count + 1) won) between after →
    Tells (AreLinesOnFirst text tell limit (count + 1) (all_won && won)) before after
first_more text tell limit count all_won won before between after was next =
    let all : List Solved = was.are.solved in
    let one : Solved = next.are.solved in
    let at : count + 1 ≡ 1 + length all = omega (arith, was.are.many) in
    record {
      lines = was.lines ++ next.lines;
      are = record {
        solved = all ++ one ∷ [];
        many = length-append all (one ∷ []) ∙ ap (λ (n : ℕ). n + 1) was.are.many;
        right = solved_more text limit 1 (count + 1) all one at was.are.right next.are.right;
        answers = rw (was.are.answers, next.are.answers) (sym (won_more all one));
        are = rw (was.are.are, next.are.is) (sym (lines_more tell 1 (count + 1) all one at));
      };
      wrote = grows_twice before between after was.lines next.lines (was.lines ++ next.lines) was.wrote next.wrote refl;
    }
