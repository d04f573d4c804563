-- Objects that are noted as shown with others.
use Rattle.std.proofs.Common.{◌≡◌, ◌∙◌, ◌||◌, ◌+◌, ◌<◌, ℕ, Bool, true, false, inl, inr, List, [], ◌∷◌, ◌++◌, sym, ap, length}
use Rattle.std.proofs.Common.{take, get_or, arith}
use Rattle.std.specs.Prelude.{nat_eq, slice_index_or}
use Rattle.std.specs.List.{list_any}
use Rattle.std.proofs.lemmas.Bool.{and_parts, eq-eqb, eqb-true, false≢true, or_cases}
use Rattle.std.proofs.lemmas.List.Folds.{list_any-append, list_any_more}
use Rattle.ps_model.specs.declared.pieces.ObjectId.{ObjectId}
use Rattle.ps_model.specs.names.Names.{Glyph, is_among, members, same_object}
use Rattle.ps_screen.specs.Glyphs.{AreMixed, StayNoted, shows_both}

-- of a list with one object, or with none, two that aren't the same aren't both
pub few_apart : (objects : List ObjectId) (object other : ObjectId) → length objects < 2 →
    same_object object other ≡ false → is_among objects object ≡ true → is_among objects other ≡ true → false ≡ true
few_apart [] object other few apart one two = one
few_apart (first ∷ []) object other few apart one two = elim (or_cases (same_object object first) false one) [
  | inl here ↦ elim (or_cases (same_object other first) false two) [
    | inl there ↦
        let same : object.0 ≡ other.0 = eqb-true object.0 first.0 here ∙ sym (eqb-true other.0 first.0 there) in
        sym apart ∙ eq-eqb object.0 other.0 same
    | inr beyond ↦ beyond
  ]
  | inr beyond ↦ beyond
]
few_apart (first ∷ (second ∷ rest)) object other few apart one two =
    let below : length (first ∷ (second ∷ rest)) < 2 = few in absurd (omega (arith, below))

-- one object more
pub noted_more : (objects : List ObjectId) (i : ℕ) (d : ObjectId) (was now : List Bool) → i < length objects →
    ((object : ObjectId) → is_among (take i objects) object ≡ true → slice_index_or was object.0 true ≡ true) →
    slice_index_or now (get_or objects i d).0 true ≡ true → StayNoted was now → (object : ObjectId) →
    is_among (take (i + 1) objects) object ≡ true → slice_index_or now object.0 true ≡ true
noted_more objects i d was now low before here kept object among =
    let item : ObjectId = get_or objects i d in
    elim (or_cases (is_among (take i objects) object) (same_object object item)
    (sym (list_any_more (same_object object) objects i d low) ∙ among)) [
      | inl front ↦ kept object.0 (before object front)
      | inr own ↦ ap (λ (n : ℕ). slice_index_or now n true) (eqb-true object.0 item.0 own) ∙ here
    ]

-- one glyph more
pub mixed_more : (before : List Glyph) (glyph : Glyph) (all : List Glyph) (objects : List ObjectId)
    (was now : List Bool) → all ≡ before ++ glyph ∷ [] → objects ≡ members glyph.meaning → AreMixed before was →
    StayNoted was now → ((object other : ObjectId) → same_object object other ≡ false →
    is_among objects object ≡ true → is_among objects other ≡ true → slice_index_or now object.0 true ≡ true) →
    AreMixed all now
mixed_more before glyph all objects was now more is mixed kept noted object other apart shown =
    let both : Glyph → Bool = shows_both object other in
    elim (or_cases (list_any both before) (list_any both (glyph ∷ []))
    (sym (list_any-append both before (glyph ∷ [])) ∙ sym (ap (list_any both) more) ∙ shown)) [
      | inl early ↦ kept object.0 (mixed object other apart early)
      | inr late ↦ elim (or_cases (both glyph) false late) [
        | inl here ↦
            let parts = and_parts (is_among (members glyph.meaning) object) (is_among (members glyph.meaning) other)
            here in
            noted object other apart (ap (λ xs. is_among xs object) is ∙ parts.0)
            (ap (λ xs. is_among xs other) is ∙ parts.1)
        | inr beyond ↦ absurd (false≢true beyond)
      ]
    ]
