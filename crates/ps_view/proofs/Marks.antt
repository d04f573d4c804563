-- A mark is the front of no other beginning's mark: what begins with it tells the beginning.
use Rattle.std.proofs.Common.{◌≡◌, ◌∙◌, ◌≤◌, ℕ, suc, zero, Bool, true, false, List, [], ◌∷◌, ◌++◌, length, refl}
use Rattle.std.proofs.Common.{sym, ap, ap₂, append_assoc, arith}
use Rattle.std.specs.Prelude.{Option, Some, None}
use mathlib.Core.HLevel.{is_prop→PathP}
use native.Mathlib.Bridge.{le_prop}
use Rattle.ps_view.specs.declared.heard_keys.HeardKeys.{HeardKeys}
use Rattle.ps_view.specs.declared.sizes.Size.{Size}
use Rattle.ps_view.specs.Games.{KnownGame}
use Rattle.ps_view.specs.Beginnings.{Beginning, mark, mark_of_truth, mark_of_heard, mark_of_numbers, mark_of_told}

-- what comes first in a list, and what comes after it
first : List ℕ → ℕ
first [] = 0
first (x ∷ xs) = x

others : List ℕ → List ℕ
others [] = []
others (x ∷ xs) = xs

pub same_first : (x y : ℕ) (xs ys : List ℕ) → x ∷ xs ≡ y ∷ ys → x ≡ y
unfolding first
same_first x y xs ys e = ap first e

pub same_others : (x y : ℕ) (xs ys : List ℕ) → x ∷ xs ≡ y ∷ ys → xs ≡ ys
unfolding others
same_others x y xs ys e = ap others e

-- lists of one length before others
pub same_fronts : (xs ys x y : List ℕ) → length xs ≡ length ys → xs ++ x ≡ ys ++ y → (xs ≡ ys) × (x ≡ y)
same_fronts [] [] x y long e = (refl, e)
same_fronts [] (b ∷ ys) x y long e = absurd (omega arith)
same_fronts (a ∷ xs) [] x y long e = absurd (omega arith)
same_fronts (a ∷ xs) (b ∷ ys) x y long e =
    let behind = same_fronts xs ys x y (omega arith) (same_others a b (xs ++ x) (ys ++ y) e) in
    (ap₂ (λ (head : ℕ) (tail : List ℕ). head ∷ tail) (same_first a b (xs ++ x) (ys ++ y) e) behind.0, behind.1)

same_truth : (a b : Bool) → mark_of_truth a ≡ mark_of_truth b → a ≡ b
same_truth true true e = refl
same_truth false false e = refl
same_truth true false e = absurd (omega arith)
same_truth false true e = absurd (omega arith)

same_numbers : (xs ys x y : List ℕ) → mark_of_numbers xs ++ x ≡ mark_of_numbers ys ++ y → (xs ≡ ys) × (x ≡ y)
same_numbers xs ys x y e =
    same_fronts xs ys x y (same_first (length xs) (length ys) (xs ++ x) (ys ++ y) e)
    (same_others (length xs) (length ys) (xs ++ x) (ys ++ y) e)

same_told : (a b : Option (List ℕ)) (x y : List ℕ) → mark_of_told a ++ x ≡ mark_of_told b ++ y → (a ≡ b) × (x ≡ y)
same_told None None x y e = (refl, same_others 0 0 x y e)
same_told None (Some b) x y e = let no : 0 ≡ 1 = same_first 0 1 x (mark_of_numbers b ++ y) e in absurd (omega (arith, no))
same_told (Some a) None x y e = let no : 1 ≡ 0 = same_first 1 0 (mark_of_numbers a ++ x) y e in absurd (omega (arith, no))
same_told (Some a) (Some b) x y e =
    let behind = same_numbers a b x y (same_others 1 1 (mark_of_numbers a ++ x) (mark_of_numbers b ++ y) e) in
    (ap Some behind.0, behind.1)

same_sizes : (a b : Size) → a.rows ≡ b.rows → a.columns ≡ b.columns → a ≡ b
same_sizes a b r c = λ i. record {
  rows = r i;
  columns = c i;
  tall = is_prop→PathP (λ j. 1 ≤ r j) (λ j. le_prop) a.tall b.tall i;
  wide = is_prop→PathP (λ j. 1 ≤ c j) (λ j. le_prop) a.wide b.wide i;
}

same_heard : (a b : HeardKeys) → mark_of_truth a.acts ≡ mark_of_truth b.acts →
    mark_of_truth a.undoes ≡ mark_of_truth b.undoes → mark_of_truth a.restarts ≡ mark_of_truth b.restarts → a ≡ b
same_heard a b acts undoes restarts = λ i. record {
  acts = same_truth a.acts b.acts acts i;
  undoes = same_truth a.undoes b.undoes undoes i;
  restarts = same_truth a.restarts b.restarts restarts i;
}

-- a mark before others
spelled : Beginning → List ℕ → List ℕ
spelled begun x = begun.reference ∷ begun.size.rows ∷ begun.size.columns ∷ mark_of_truth begun.keeps_size
    ∷ mark_of_truth begun.game.heard.acts ∷ mark_of_truth begun.game.heard.undoes ∷ mark_of_truth begun.game.heard.restarts
    ∷ (mark_of_numbers begun.game.players ++ (mark_of_told begun.before ++ x))

mark_before : (begun : Beginning) (x : List ℕ) → mark begun ++ x ≡ spelled begun x
unfolding mark spelled
mark_before begun x =
    ap (λ (rest : List ℕ). begun.reference ∷ begun.size.rows ∷ begun.size.columns ∷ mark_of_truth begun.keeps_size
    ∷ mark_of_truth begun.game.heard.acts ∷ mark_of_truth begun.game.heard.undoes ∷ mark_of_truth begun.game.heard.restarts ∷ rest)
    (append_assoc (mark_of_numbers begun.game.players) (mark_of_told begun.before) x)

known : (a b : Beginning) (x y : List ℕ) → spelled a x ≡ spelled b y → (a ≡ b) × (x ≡ y)
unfolding spelled
known a b x y e =
    let e1 = same_others _ _ _ _ e in
    let e2 = same_others _ _ _ _ e1 in
    let e3 = same_others _ _ _ _ e2 in
    let e4 = same_others _ _ _ _ e3 in
    let e5 = same_others _ _ _ _ e4 in
    let e6 = same_others _ _ _ _ e5 in
    let e7 = same_others _ _ _ _ e6 in
    let reference : a.reference ≡ b.reference = same_first _ _ _ _ e in
    let size : a.size ≡ b.size = same_sizes a.size b.size (same_first _ _ _ _ e1) (same_first _ _ _ _ e2) in
    let heard : a.game.heard ≡ b.game.heard = same_heard a.game.heard b.game.heard (same_first _ _ _ _ e4)
    (same_first _ _ _ _ e5) (same_first _ _ _ _ e6) in
    let keeps : a.keeps_size ≡ b.keeps_size = same_truth a.keeps_size b.keeps_size (same_first _ _ _ _ e3) in
    let players = same_numbers a.game.players b.game.players _ _ e7 in
    let before = same_told a.before b.before x y players.1 in
    let game : a.game ≡ b.game = λ i. record { players = players.0 i; heard = heard i } in
    (λ i. record { game = game i; size = size i; keeps_size = keeps i; before = before.0 i; reference = reference i }, before.1)

-- what begins with a mark tells the beginning, and what stands behind the mark
pub mark_is_known : (a b : Beginning) (x y : List ℕ) → mark a ++ x ≡ mark b ++ y → (a ≡ b) × (x ≡ y)
mark_is_known a b x y e = known a b x y (sym (mark_before a x) ∙ e ∙ mark_before b y)
