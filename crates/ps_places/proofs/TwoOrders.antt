-- Steps taken one after the other: for each pair of two numbers in either order, where those of different first numbers
-- don't meet; and for the numbers that pass a test alone, where the others do nothing.
use Rattle.std.proofs.Common.{◌≡◌, ◌∙◌, ℕ, zero, suc, ◌+◌, ◌<◌, ◌≤◌, Bool, true, false, cond}
use Rattle.std.proofs.Common.{List, [], ◌∷◌, map, filter, fold, refl, sym, ap, arith}
use Rattle.std.specs.List.{flat_map, range_with_len}
use Rattle.std.proofs.lemmas.Grind.{fold-append}
use Rattle.std.proofs.lemmas.List.{map-append}

module _ {A : Type 0} where
  -- numbers of a range ------------------------------------------------------------------------------------------------

  pub range-agree : (f h : A → ℕ → A) (r : A) (a n : ℕ) → ((s : A) (i : ℕ) → a ≤ i → i < a + n → f s i ≡ h s i) →
      fold f r (range_with_len a n) ≡ fold h r (range_with_len a n)
  range-agree f h r a zero same = refl
  range-agree f h r a (suc n) same =
      ap (λ (s : A). fold f s (range_with_len (a + 1) n)) (same r a (omega arith) (omega arith))
      ∙ range-agree f h (h r a) (a + 1) n (λ s i low high. same s i (omega arith) (omega arith))

  -- a step that none of the others meets may come first or last
  past_range : (f : A → ℕ → A) (once : A → A) (r : A) (a n : ℕ) →
      ((s : A) (i : ℕ) → a ≤ i → i < a + n → f (once s) i ≡ once (f s i)) →
      fold f (once r) (range_with_len a n) ≡ once (fold f r (range_with_len a n))
  past_range f once r a zero same = refl
  past_range f once r a (suc n) same =
      ap (λ (s : A). fold f s (range_with_len (a + 1) n)) (same r a (omega arith) (omega arith))
      ∙ past_range f once (f r a) (a + 1) n (λ s i low high. same s i (omega arith) (omega arith))

  -- steps that do nothing
  pub still : (r : A) (ns : List ℕ) → fold (λ s n. s) r ns ≡ r
  still r [] = refl
  still r (n ∷ ns) = still r ns

  -- two steps for each number come to all first ones and then all second ones
  parted : (first second : A → ℕ → A) (r : A) (a n : ℕ) →
      ((s : A) (i j : ℕ) → a ≤ i → i < a + n → a ≤ j → j < a + n → first (second s i) j ≡ second (first s j) i) →
      fold (λ s i. second (first s i) i) r (range_with_len a n)
      ≡ fold second (fold first r (range_with_len a n)) (range_with_len a n)
  parted first second r a zero same = refl
  parted first second r a (suc n) same =
      parted first second (second (first r a) a) (a + 1) n
      (λ s i j low high least most. same s i j (omega arith) (omega arith) (omega arith) (omega arith))
      ∙ ap (λ (s : A). fold second s (range_with_len (a + 1) n))
      (past_range first (λ s. second s a) (first r a) (a + 1) n
      (λ s i low high. same s a i (omega arith) (omega arith) (omega arith) (omega arith)))

  -- pairs -------------------------------------------------------------------------------------------------------------

  pub either_order : (step : A → ℕ → ℕ → A) (r : A) (a n b m : ℕ) →
      ((s : A) (x other y z : ℕ) → a ≤ x → x < other → other < a + n → y < b + m → z < b + m →
      step (step s other y) x z ≡ step (step s x z) other y) →
      fold (λ s x. fold (λ t y. step t x y) s (range_with_len b m)) r (range_with_len a n)
      ≡ fold (λ s y. fold (λ t x. step t x y) s (range_with_len a n)) r (range_with_len b m)
  either_order step r a zero b m same = sym (still r (range_with_len b m))
  either_order step r a (suc n) b m same =
      let others : A → ℕ → A = λ s y. fold (λ t x. step t x y) s (range_with_len (a + 1) n) in
      either_order step (fold (λ t y. step t a y) r (range_with_len b m)) (a + 1) n b m
      (λ s x other y z low less high under below.
      same s x other y z (omega arith) less (omega arith) under below)
      ∙ sym (parted (λ t y. step t a y) others r b m
      (λ s i j low under least below.
      sym (past_range (λ t x. step t x i) (λ t. step t a j) s (a + 1) n
      (λ t x far most. sym (same t a x i j (omega arith) (omega arith) (omega arith) under below)))))

  -- numbers that pass a test ------------------------------------------------------------------------------------------

  passing_by : (f h : A → ℕ → A) (test : ℕ → Bool) (r : A) (n : ℕ) (ns : List ℕ) (b : Bool) → test n ≡ b →
      ((s : A) (n : ℕ) → test n ≡ false → f s n ≡ s) → ((s : A) (n : ℕ) → test n ≡ true → f s n ≡ h s n) →
      ((s : A) → fold f s ns ≡ fold h s (filter test ns)) →
      fold f (f r n) ns ≡ fold h r (cond b (n ∷ filter test ns) (filter test ns))
  passing_by f h test r n ns true e off on rest = ap (λ (s : A). fold f s ns) (on r n e) ∙ rest (h r n)
  passing_by f h test r n ns false e off on rest = ap (λ (s : A). fold f s ns) (off r n e) ∙ rest r

  pub passing_alone : (f h : A → ℕ → A) (test : ℕ → Bool) (r : A) (ns : List ℕ) →
      ((s : A) (n : ℕ) → test n ≡ false → f s n ≡ s) → ((s : A) (n : ℕ) → test n ≡ true → f s n ≡ h s n) →
      fold f r ns ≡ fold h r (filter test ns)
  passing_alone f h test r [] off on = refl
  passing_alone f h test r (n ∷ ns) off on =
      passing_by f h test r n ns (test n) refl off on (λ s. passing_alone f h test s ns off on)

  -- lists for each number
  pub list_by_list : {X Y : Type 0} (act : A → Y → A) (told : X → Y) (f : ℕ → List X) (r : A) (ns : List ℕ) →
      fold act r (map told (flat_map f ns)) ≡ fold (λ s n. fold act s (map told (f n))) r ns
  list_by_list act told f r [] = refl
  list_by_list act told f r (n ∷ ns) =
      ap (fold act r) (map-append told (f n) (flat_map f ns))
      ∙ fold-append act r (map told (f n)) (map told (flat_map f ns))
      ∙ list_by_list act told f (fold act r (map told (f n))) ns
