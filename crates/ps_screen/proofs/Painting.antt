-- Frames, a cell and a row further, and the three tests for a glyph.
use Rattle.std.proofs.Common.{◌≡◌, ◌∙◌, ℕ, suc, zero, ◌+◌, List, ◌++◌, Option, Some, None, refl, sym, ap}
use Rattle.std.proofs.Common.{append_assoc, append-nil, arith, option_map}
use Rattle.std.specs.List.{flat_map, range_with_len}
use Rattle.std.specs.Prelude.{unwrap_or}
use Rattle.ps_model.specs.names.Names.{Glyph}
use Rattle.ps_model.specs.session.Frames.{first_of_three, character_of}

-- what one more number brings
pub flat_map_range_more : {X : Type 0} (f : ℕ → List X) (a n j : ℕ) → a + n ≡ j →
    flat_map f (range_with_len a (n + 1)) ≡ flat_map f (range_with_len a n) ++ f j
flat_map_range_more f a zero j e = let s : a ≡ j = omega arith in append-nil (f a) ∙ ap f s
flat_map_range_more f a (suc n) j e =
    let s : suc n + 1 ≡ suc (n + 1) = omega arith in
    let t : (a + 1) + n ≡ j = omega arith in
    rw s (ap (λ xs. f a ++ xs) (flat_map_range_more f (a + 1) n j t)
    ∙ sym (append_assoc (f a) (flat_map f (range_with_len (a + 1) n)) (f j)))

-- a text that grows by one more
pub text_more_from : {X : Type 0} (f : ℕ → List X) (a n j : ℕ) (before text more : List X) → a + n ≡ j →
    text ≡ before ++ flat_map f (range_with_len a n) → more ≡ text ++ f j →
    more ≡ before ++ flat_map f (range_with_len a (n + 1))
text_more_from f a n j before text more at so_far is =
    is ∙ ap (λ t. t ++ f j) so_far ∙ append_assoc before (flat_map f (range_with_len a n)) (f j)
    ∙ ap (λ t. before ++ t) (sym (flat_map_range_more f a n j at))

pub text_more : {X : Type 0} (f : ℕ → List X) (n : ℕ) (before text more : List X) →
    text ≡ before ++ flat_map f (range_with_len 0 n) → more ≡ text ++ f n →
    more ≡ before ++ flat_map f (range_with_len 0 (n + 1))
text_more f n before text more so_far is = text_more_from f 0 n n before text more (omega arith) so_far is

-- the first test fits
pub first_fits : (first second third : Option Glyph) (c : ℕ) → Some c ≡ option_map (λ glyph. glyph.character) first →
    c ≡ character_of (first_of_three first second third)
first_fits None second third c e = absurd (cc)
first_fits (Some glyph) second third c e = cc

-- the second test fits, and not the first
pub second_fits : (first second third : Option Glyph) (c : ℕ) → None ≡ option_map (λ glyph. glyph.character) first →
    Some c ≡ option_map (λ glyph. glyph.character) second →
    c ≡ character_of (first_of_three first second third)
second_fits (Some glyph) second third c e d = absurd (cc)
second_fits None None third c e d = absurd (cc)
second_fits None (Some glyph) third c e d = cc

-- neither the first nor the second test fits
pub third_tried : (first second third : Option Glyph) → None ≡ option_map (λ glyph. glyph.character) first →
    None ≡ option_map (λ glyph. glyph.character) second →
    (r : Option ℕ) → r ≡ option_map (λ glyph. glyph.character) third →
    unwrap_or r 63 ≡ character_of (first_of_three first second third)
third_tried (Some glyph) second third e d r h = absurd (cc)
third_tried None (Some glyph) third e d r h = absurd (cc)
third_tried None None None e d r h = rw h refl
third_tried None None (Some glyph) e d r h = rw h refl
