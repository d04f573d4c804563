-- One name of the table more.
use Rattle.std.proofs.Common.{◌≡◌, ℕ, zero, suc, ◌<◌, ◌≤◌, true, false, List, [], ◌∷◌, ◌++◌, length, drop, map, Option}
use Rattle.std.proofs.Common.{None, Some, refl, ap, sym, ◌∙◌, arith, append_assoc}
use Rattle.std.proofs.lemmas.List.{append-nil, drop_all}
use Rattle.ps_names.proofs.common.Elements.{drop-got}
use Rattle.std.specs.Prelude.{slice_get, slice_index_or, is_some, unwrap_or}
use Rattle.std.specs.Option.{option_or}
use Rattle.std.proofs.lemmas.Option.{unwrap_or-slice_get}
use Rattle.std.specs.List.{zip, filter_map, cons_option}
use Rattle.std.specs.Str.{bytes_eq}
use Rattle.std.specs.Map.{lookup}
use Rattle.std.specs.Prelude.{option_to_list, option_and_then}
use Rattle.ps_model.specs.names.NamesRead.{glyph_with}
use Rattle.ps_model.specs.names.Names.{Meaning, Glyph}
use Rattle.ps_names.specs.Known.{Named, keys}
use Rattle.ps_names.specs.Tables.{entry_with, entries_with, glyph_named}

pub zip-map : {A B : Type 0} (f : A → B) (xs : List A) → zip xs (map f xs) ≡ map (λ x. (x, f x)) xs
zip-map f [] = refl
zip-map f (x ∷ xs) = ap (λ r. (x, f x) ∷ r) (zip-map f xs)

pub zip-at : {A B : Type 0} (xs : List A) (ys : List B) (k : ℕ) (x : A) (y : B) → slice_get xs k ≡ Some x →
    slice_get ys k ≡ Some y → drop k (zip xs ys) ≡ (x, y) ∷ drop (suc k) (zip xs ys)
zip-at [] ys k x y e f = cc
zip-at (a ∷ xs) [] k x y e f = cc
zip-at (a ∷ xs) (b ∷ ys) zero x y e f = let p : a ≡ x = cc in let q : b ≡ y = cc in rw (p, q) refl
zip-at (a ∷ xs) (b ∷ ys) (suc k) x y e f = zip-at xs ys k x y e f

drop-none : {A : Type 0} (k : ℕ) → let none : List A = [] in drop k none ≡ none
drop-none zero = refl
drop-none (suc k) = refl

pub zip-left : {A B : Type 0} (xs : List A) (ys : List B) (k : ℕ) → slice_get xs k ≡ None → drop k (zip xs ys) ≡ []
zip-left [] ys k e = drop-none k
zip-left (a ∷ xs) [] k e = drop-none k
zip-left (a ∷ xs) (b ∷ ys) zero e = cc
zip-left (a ∷ xs) (b ∷ ys) (suc k) e = zip-left xs ys k e

pub zip-right : {A B : Type 0} (xs : List A) (ys : List B) (k : ℕ) → slice_get ys k ≡ None → drop k (zip xs ys) ≡ []
zip-right [] ys k e = drop-none k
zip-right (a ∷ xs) [] k e = drop-none k
zip-right (a ∷ xs) (b ∷ ys) zero e = cc
zip-right (a ∷ xs) (b ∷ ys) (suc k) e = zip-right xs ys k e

pub end-stays : {A : Type 0} (xs : List A) (k : ℕ) → drop k xs ≡ [] → drop (suc k) xs ≡ []
end-stays [] k e = refl
end-stays (x ∷ xs) zero e = cc
end-stays (x ∷ xs) (suc k) e = end-stays xs k e

skip : (query : List ℕ) (named : Named) (meaning : Option Meaning) (rest : List (List ℕ × Meaning)) →
    bytes_eq query named.name ≡ false
    → lookup (bytes_eq query) (cons_option (entry_with (named, meaning)) rest) ≡ lookup (bytes_eq query) rest
skip query named None rest e = refl
skip query named (Some meaning) rest e = rw e refl

module _ (query : List ℕ) (known : List Named) (meanings : List (Option Meaning)) (k : ℕ) (named : Named) where
  abbrev from : ℕ → Option Meaning
  from place = lookup (bytes_eq query) (entries_with (drop place (zip known meanings)))

  pub table-hit : (meaning : Meaning) → slice_get known k ≡ Some named → slice_get meanings k ≡ Some (Some meaning) →
      bytes_eq query named.name ≡ true
      → from k ≡ Some meaning
  table-hit meaning e f h = rw (zip-at known meanings k named (Some meaning) e f, h) refl

  pub table-nothing : slice_get known k ≡ Some named → slice_get meanings k ≡ Some None → from k ≡ from (suc k)
  table-nothing e f = rw (zip-at known meanings k named None e f) refl

  pub table-other : (meaning : Option Meaning) → slice_get known k ≡ Some named → slice_get meanings k ≡ Some meaning →
      bytes_eq query named.name ≡ false → from k ≡ from (suc k)
  table-other meaning e f h = rw (zip-at known meanings k named meaning e f)
      (skip query named meaning (entries_with (drop (suc k) (zip known meanings))) h)

  pub table-end : drop k (zip known meanings) ≡ [] → from k ≡ from (suc k)
  table-end e = rw (e, end-stays (zip known meanings) k e) refl

  pub other-name : slice_get known k ≡ Some named → bytes_eq query named.name ≡ false → from k ≡ from (suc k)
  other-name e h = by (slice_get meanings k) refl
    where
      by : (found : Option (Option Meaning)) → slice_get meanings k ≡ found → from k ≡ from (suc k)
      by None f = table-end (zip-right known meanings k f)
      by (Some meaning) f = table-other meaning e f h

  pub here-by : (found : Option (Option Meaning)) → slice_get meanings k ≡ found → slice_get known k ≡ Some named →
      bytes_eq query named.name ≡ true
      → from k ≡ option_or (unwrap_or found None) (from (suc k))
  here-by None f e h = table-end (zip-right known meanings k f)
  here-by (Some None) f e h = table-nothing e f
  here-by (Some (Some meaning)) f e h = table-hit meaning e f h

  -- the name of a place that is the one that is looked for
  pub name-here : slice_get known k ≡ Some named → bytes_eq query named.name ≡ true →
      from k ≡ option_or (slice_index_or meanings k None) (from (suc k))
  name-here e h = here-by _ refl e h ∙ ap (λ o. option_or o (from (suc k))) (unwrap_or-slice_get meanings k None)

pub or-some : {A : Type 0} (a b : Option A) → is_some a ≡ true → option_or a b ≡ a
or-some None b e = cc
or-some (Some x) b e = refl

pub or-none : {A : Type 0} (a b : Option A) → is_some a ≡ false → option_or a b ≡ b
or-none None b e = refl
or-none (Some x) b e = cc

-- the names before a place are others
pub names-before : (query : List ℕ) (known : List Named) (meanings : List (Option Meaning)) (place : ℕ) →
    ((k : ℕ) → k < place → bytes_eq query (slice_index_or (keys known) k []) ≡ false)
    → lookup (bytes_eq query) (entries_with (drop place (zip known meanings))) ≡ lookup (bytes_eq query)
    (entries_with (zip known meanings))
names-before query [] meanings place h = ap (λ table. lookup (bytes_eq query) (entries_with table)) (drop-none place)
names-before query (named ∷ known) [] place h =
    ap (λ table. lookup (bytes_eq query) (entries_with table)) (drop-none place)
names-before query (named ∷ known) (meaning ∷ meanings) zero h = refl
names-before query (named ∷ known) (meaning ∷ meanings) (suc place) h =
    names-before query known meanings place (λ k less. h (suc k) (omega arith))
    ∙ sym (skip query named meaning (entries_with (zip known meanings)) (h 0 (omega arith)))

-- what is made for one name more
pub made-step : {A B : Type 0} (f : A → B) (xs : List A) (made added : List B) (k next : ℕ) (x : A) (y : B) →
    slice_get xs k ≡ Some x → next ≡ suc k → added ≡ made ++ y ∷ [] → y ≡ f x
    → added ++ map f (drop next xs) ≡ made ++ map f (drop k xs)
made-step f xs made added k next x y e n a m =
    rw (n, drop-got xs k x e, a, ← m) (append_assoc made (y ∷ []) (map f (drop (suc k) xs)))

-- all is made
pub done : {A B : Type 0} (f : A → B) (xs : List A) (made whole : List B) (k : ℕ) → length xs ≤ k →
    made ++ map f (drop k xs) ≡ whole → made ≡ whole
done f xs made whole k past e = sym (append-nil made) ∙ ap (λ rest. made ++ map f rest) (sym (drop_all k xs past)) ∙ e

with_glyph : (made : Option Glyph) (glyphs : List Glyph) → cons_option made glyphs ≡ option_to_list made ++ glyphs
with_glyph None glyphs = refl
with_glyph (Some made) glyphs = refl

module _ (known : List Named) (meanings : List (Option Meaning)) (k : ℕ) where
  abbrev glyphs_from : ℕ → List Glyph
  glyphs_from place = filter_map glyph_named (drop place (zip known meanings))

  glyphs-end : drop k (zip known meanings) ≡ [] → glyphs_from k ≡ glyphs_from (suc k)
  glyphs-end e = rw (e, end-stays (zip known meanings) k e) refl

  -- there is no name of that place
  pub no-glyph : slice_get known k ≡ None → glyphs_from k ≡ glyphs_from (suc k)
  no-glyph e = glyphs-end (zip-left known meanings k e)

  glyph-by : (named : Named) (found : Option (Option Meaning)) → slice_get meanings k ≡ found →
      slice_get known k ≡ Some named
      → glyphs_from k ≡ option_to_list (option_and_then (glyph_with named.character) (unwrap_or found None)) ++
      glyphs_from (suc k)
  glyph-by named None f e = glyphs-end (zip-right known meanings k f)
  glyph-by named (Some meaning) f e = rw (zip-at known meanings k named meaning e f)
      (with_glyph (glyph_named (named, meaning)) (glyphs_from (suc k)))

  -- the glyph of the name of that place
  pub glyph-here : (named : Named) → slice_get known k ≡ Some named
      → glyphs_from k ≡ option_to_list (option_and_then (glyph_with named.character) (slice_index_or meanings k None))
      ++ glyphs_from (suc k)
  glyph-here named e =
      glyph-by named _ refl e ∙ ap (λ o. option_to_list (option_and_then (glyph_with named.character) o) ++ glyphs_from
      (suc k)) (unwrap_or-slice_get meanings k None)
