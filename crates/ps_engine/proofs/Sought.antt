-- The first combination of a kind, in lists of combinations.
use Rattle.std.proofs.Common.{◌≡◌, ◌∙◌, ℕ, ◌≤◌, ◌&&◌, Bool, true, false, List, [], ◌∷◌, ◌++◌, length, map, fold, refl}
use Rattle.std.proofs.Common.{sym, ap, arith}
use Rattle.std.proofs.Math.Bool.{and-true, and-false}
use Rattle.ps_places.specs.Ways.{from_first}
use Rattle.ps_engine.specs.Choices.{spread}

module _ {X : Type 0} (kind : X → Bool) where
  pub from_first-yes : (x : X) (xs : List X) → kind x ≡ true → from_first kind (x ∷ xs) ≡ x ∷ xs
  from_first-yes x xs e = rw e refl

  pub from_first-no : (x : X) (xs : List X) → kind x ≡ false → from_first kind (x ∷ xs) ≡ from_first kind xs
  from_first-no x xs e = rw e refl

  -- what was found, and all behind it; or what is found there
  abbrev pub found_or : List X → List X → List X
  found_or [] ys = from_first kind ys
  found_or (z ∷ zs) ys = (z ∷ zs) ++ ys

  append_by : (x : X) (xs ys : List X) (b : Bool) → kind x ≡ b →
      from_first kind (xs ++ ys) ≡ found_or (from_first kind xs) ys →
      from_first kind ((x ∷ xs) ++ ys) ≡ found_or (from_first kind (x ∷ xs)) ys
  append_by x xs ys true e rest = from_first-yes x (xs ++ ys) e
      ∙ ap (λ (zs : List X). found_or zs ys) (sym (from_first-yes x xs e))
  append_by x xs ys false e rest = from_first-no x (xs ++ ys) e ∙ rest
      ∙ ap (λ (zs : List X). found_or zs ys) (sym (from_first-no x xs e))

  pub from_first-append : (xs ys : List X) → from_first kind (xs ++ ys) ≡ found_or (from_first kind xs) ys
  from_first-append [] ys = refl
  from_first-append (x ∷ xs) ys = append_by x xs ys (kind x) refl (from_first-append xs ys)

  -- the first one is of the kind
  first_by : (x y : X) (xs ys : List X) (b : Bool) → kind x ≡ b → (from_first kind xs ≡ y ∷ ys → kind y ≡ true) →
      from_first kind (x ∷ xs) ≡ y ∷ ys → kind y ≡ true
  first_by x y xs ys true e rest h = let same : x ∷ xs ≡ y ∷ ys = sym (from_first-yes x xs e) ∙ h in let is : x ≡ y =
      cc in ap kind (sym is) ∙ e
  first_by x y xs ys false e rest h = rest (sym (from_first-no x xs e) ∙ h)

  pub first_is : (xs : List X) (y : X) (ys : List X) → from_first kind xs ≡ y ∷ ys → kind y ≡ true
  first_is [] y ys h = absurd (cc)
  first_is (x ∷ xs) y ys h = first_by x y xs ys (kind x) refl (first_is xs y ys) h

  -- and no more are left from it on
  long_by : (x : X) (xs : List X) (b : Bool) → kind x ≡ b → length (from_first kind xs) ≤ length xs →
      length (from_first kind (x ∷ xs)) ≤ length (x ∷ xs)
  long_by x xs true e rest = rw (from_first-yes x xs e) (omega arith)
  long_by x xs false e rest = rw (from_first-no x xs e) (omega (arith, rest))

  pub no_more : (xs : List X) → length (from_first kind xs) ≤ length xs
  no_more [] = omega arith
  no_more (x ∷ xs) = long_by x xs (kind x) refl (no_more xs)

  -- what does nothing for all others is passed over
  fold_by : {R : Type 0} (f : R → X → R) (r : R) (x : X) (xs : List X) (b : Bool) → kind x ≡ b →
      ((y : X) → kind y ≡ false → f r y ≡ r) → fold f r xs ≡ fold f r (from_first kind xs) →
      fold f r (x ∷ xs) ≡ fold f r (from_first kind (x ∷ xs))
  fold_by f r x xs true e still rest = ap (fold f r) (sym (from_first-yes x xs e))
  fold_by f r x xs false e still rest = ap (λ s. fold f s xs) (still x e) ∙ rest
      ∙ ap (fold f r) (sym (from_first-no x xs e))

  pub passed_over : {R : Type 0} (f : R → X → R) (r : R) (xs : List X) → ((y : X) → kind y ≡ false → f r y ≡ r) →
      fold f r xs ≡ fold f r (from_first kind xs)
  passed_over f r [] still = refl
  passed_over f r (x ∷ xs) still = fold_by f r x xs (kind x) refl still (passed_over f r xs still)

-- places of a row before combinations of the others -------------------------------------------------------------------

-- a combination is of the kind where its first place is, and the others are
abbrev pub AreBoth : (List ℕ → Bool) → (List (List ℕ) → Bool) → (List (List ℕ) → Bool) → Type 0
AreBoth place others all = (p : List ℕ) (rest : List (List ℕ)) → all (p ∷ rest) ≡ (place p && others rest)

module _ (place : List ℕ → Bool) (others all : List (List ℕ) → Bool) (both : AreBoth place others all) where
  fits_by : (p : List ℕ) (rest : List (List ℕ)) (b : Bool) → place p ≡ b → others rest ≡ true → all (p ∷ rest) ≡ b
  fits_by p rest b e o = both p rest ∙ rw (e, o) (and-true b)

  off_by : (p : List ℕ) (rest : List (List ℕ)) (b : Bool) → place p ≡ b → others rest ≡ false → all (p ∷ rest) ≡ false
  off_by p rest b e o = both p rest ∙ rw (e, o) (and-false b)

  front_by : (p : List ℕ) (ps : List (List ℕ)) (rest : List (List ℕ)) (b : Bool) → place p ≡ b → others rest ≡ true →
      from_first all (map (λ q. q ∷ rest) ps) ≡ map (λ q. q ∷ rest) (from_first place ps) →
      from_first all (map (λ q. q ∷ rest) (p ∷ ps)) ≡ map (λ q. q ∷ rest) (from_first place (p ∷ ps))
  front_by p ps rest true e o more =
      from_first-yes all (p ∷ rest) (map (λ q. q ∷ rest) ps) (fits_by p rest true e o)
      ∙ ap (map (λ q. q ∷ rest)) (sym (from_first-yes place p ps e))
  front_by p ps rest false e o more =
      from_first-no all (p ∷ rest) (map (λ q. q ∷ rest) ps) (fits_by p rest false e o) ∙ more
      ∙ ap (map (λ q. q ∷ rest)) (sym (from_first-no place p ps e))

  -- before others that are of the kind, the first place counts
  pub front_fits : (ps : List (List ℕ)) (rest : List (List ℕ)) → others rest ≡ true →
      from_first all (map (λ q. q ∷ rest) ps) ≡ map (λ q. q ∷ rest) (from_first place ps)
  front_fits [] rest o = refl
  front_fits (p ∷ ps) rest o = front_by p ps rest (place p) refl o (front_fits ps rest o)

  -- before others none
  pub front_off : (ps : List (List ℕ)) (rest : List (List ℕ)) → others rest ≡ false →
      from_first all (map (λ q. q ∷ rest) ps) ≡ []
  front_off [] rest o = refl
  front_off (p ∷ ps) rest o = from_first-no all (p ∷ rest) (map (λ q. q ∷ rest) ps) (off_by p rest (place p) refl o)
      ∙ front_off ps rest o

  -- and none where no place is
  front_by_others : (ps : List (List ℕ)) (rest : List (List ℕ)) (b : Bool) → others rest ≡ b →
      from_first place ps ≡ [] → from_first all (map (λ q. q ∷ rest) ps) ≡ []
  front_by_others ps rest true o none = front_fits ps rest o ∙ ap (map (λ q. q ∷ rest)) none
  front_by_others ps rest false o none = front_off ps rest o

  pub front_none : (ps : List (List ℕ)) (rest : List (List ℕ)) → from_first place ps ≡ [] →
      from_first all (map (λ q. q ∷ rest) ps) ≡ []
  front_none ps rest none = front_by_others ps rest (others rest) refl none

  pub spread_none : (ps : List (List ℕ)) (rests : List (List (List ℕ))) → from_first place ps ≡ [] →
      from_first all (spread ps rests) ≡ []
  spread_none ps [] none = refl
  spread_none ps (rest ∷ rests) none =
      from_first-append all (map (λ q. q ∷ rest) ps) (spread ps rests)
      ∙ ap (λ (cs : List (List (List ℕ))). found_or all cs (spread ps rests)) (front_none ps rest none)
      ∙ spread_none ps rests none

  -- the first places before the first of the others
  abbrev pub spread_from : List (List ℕ) → List (List ℕ) → List (List (List ℕ)) → List (List (List ℕ))
  spread_from firsts ps [] = []
  spread_from firsts ps (rest ∷ rests) = map (λ q. q ∷ rest) firsts ++ spread ps rests

  first_of_spread : (p : List ℕ) (qs ps : List (List ℕ)) (rest : List (List ℕ)) (rests : List (List (List ℕ)))
      (b : Bool) → others rest ≡ b → from_first place ps ≡ p ∷ qs →
      from_first all (spread ps rests) ≡ spread_from (p ∷ qs) ps (from_first others rests) →
      from_first all (spread ps (rest ∷ rests)) ≡ spread_from (p ∷ qs) ps (from_first others (rest ∷ rests))
  first_of_spread p qs ps rest rests true o first more =
      from_first-append all (map (λ q. q ∷ rest) ps) (spread ps rests)
      ∙ ap (λ (cs : List (List (List ℕ))). found_or all cs (spread ps rests)) (front_fits ps rest o
      ∙ ap (map (λ q. q ∷ rest)) first)
      ∙ ap (spread_from (p ∷ qs) ps) (sym (from_first-yes others rest rests o))
  first_of_spread p qs ps rest rests false o first more =
      from_first-append all (map (λ q. q ∷ rest) ps) (spread ps rests)
      ∙ ap (λ (cs : List (List (List ℕ))). found_or all cs (spread ps rests)) (front_off ps rest o)
      ∙ more
      ∙ ap (spread_from (p ∷ qs) ps) (sym (from_first-no others rest rests o))

  pub spread_first : (p : List ℕ) (qs ps : List (List ℕ)) (rests : List (List (List ℕ))) →
      from_first place ps ≡ p ∷ qs → from_first all (spread ps rests) ≡ spread_from (p ∷ qs) ps
      (from_first others rests)
  spread_first p qs ps [] first = refl
  spread_first p qs ps (rest ∷ rests) first = first_of_spread p qs ps rest rests (others rest) refl first
      (spread_first p qs ps rests first)

  -- it depends on the first of the others alone
  same_by : (firsts ps : List (List ℕ)) (old new : List (List (List ℕ))) → from_first place ps ≡ firsts →
      from_first others old ≡ from_first others new →
      from_first all (spread ps old) ≡ from_first all (spread ps new)
  same_by [] ps old new first same = spread_none ps old first ∙ sym (spread_none ps new first)
  same_by (p ∷ qs) ps old new first same = spread_first p qs ps old first ∙ ap (spread_from (p ∷ qs) ps) same
      ∙ sym (spread_first p qs ps new first)

  pub spread_same : (ps : List (List ℕ)) (old new : List (List (List ℕ))) →
      from_first others old ≡ from_first others new → from_first all (spread ps old) ≡ from_first all (spread ps new)
  spread_same ps old new same = same_by (from_first place ps) ps old new refl same

  pub spread_off : (ps : List (List ℕ)) (rests : List (List (List ℕ))) → from_first others rests ≡ [] →
      from_first all (spread ps rests) ≡ []
  spread_off ps rests none = spread_same ps rests [] none
