-- What is found by a key once something is added.
use Rattle.std.proofs.Common.{◌≡◌, ℕ, Bool, true, false, cond, List, [], ◌∷◌, Option, Some, None, refl, ap, ◌∙◌, filter}
use Rattle.std.proofs.Common.{arith}
use Rattle.std.specs.Prelude.{nat_eq, unwrap_or}
use Rattle.std.specs.Map.{lookup}
use Rattle.std.proofs.lemmas.Bool.Decides.{nat_tests}
use Rattle.ps_model.specs.declared.pieces.ObjectId.{ObjectId}
use Rattle.ps_model.specs.declared.rules.MovementWord.{MovementWord}
use Rattle.ps_model.specs.meaning.Directions.{word_number}
use Rattle.ps_model.specs.names.Names.{Meaning, One, AllOf, AnyOf}
use Rattle.ps_model.specs.meaning.Occurrences.{same_meaning, has_movement, numbers}
use Rattle.ps_model.specs.rules.SourceRules.{Item, Is, No}
use Rattle.ps_rules.specs.SoughtItems.{found_with, found_from}
use Rattle.ps_rules.specs.Tallies.{found_of, with_if, Key, Named, Moving, has_key, is_name_key, is_word_key, found_at}
use Rattle.ps_rules.specs.declared.index.Index.{Index}
use Rattle.ps_rules.specs.declared.sought.Found.{Found}
use Rattle.ps_rules.specs.declared.sought.Found.TheVariants.{Nothing}

one-added : (old : List (ℕ × Found)) (number at : ℕ) (v : Found) → v ≡ found_with (found_of old number) at →
    (other : ℕ) (x y : Bool) → nat_eq number other ≡ x → nat_eq other number ≡ y
    → unwrap_or (cond x (Some v) (lookup (nat_eq other) old)) Nothing ≡ cond y (found_with (found_of old other) at)
    (found_of old other)
one-added old number at v e other true true p q =
    let same : number ≡ other = grind (arith, nat_tests) in e ∙ ap (λ n. found_with (found_of old n) at) same
one-added old number at v e other false false p q = refl
one-added old number at v e other true false p q = absurd (grind (arith, nat_tests))
one-added old number at v e other false true p q = absurd (grind (arith, nat_tests))

pub added : (old new : List (ℕ × Found)) (number at : ℕ) (v : Found) → v ≡ found_with (found_of old number) at
    → ((q : ℕ) → lookup (nat_eq q) new ≡ cond (nat_eq number q) (Some v) (lookup (nat_eq q) old))
    → (other : ℕ) → found_of new other ≡ with_if (nat_eq other number) (found_of old other) at
added old new number at v e u other = ap (λ r. unwrap_or r Nothing) (u other)
    ∙ one-added old number at v e other _ _ refl refl

pub nothing_found : (index : Index) → index.objects ≡ [] → index.aggregates ≡ [] → index.properties ≡ [] →
    index.words ≡ [] → (key : Key) → found_at index key ≡ Nothing
nothing_found index a b c d (Named (One object)) = ap (λ es. found_of es object.0) a
nothing_found index a b c d (Named (AllOf line objects)) = ap (λ es. found_of es line) b
nothing_found index a b c d (Named (AnyOf line objects)) = ap (λ es. found_of es line) c
nothing_found index a b c d (Moving word) = ap (λ es. found_of es (word_number word)) d

module _ (old new : Index) (at : ℕ) where
  pub object : (object : ObjectId) → ((n : ℕ) →
      found_of new.objects n ≡ with_if (nat_eq n object.0) (found_of old.objects n) at)
      → new.aggregates ≡ old.aggregates → new.properties ≡ old.properties → new.words ≡ old.words → (key : Key) →
      found_at new key ≡ with_if (is_name_key key (One object)) (found_at old key) at
  object here h b c d (Named (One other)) = h other.0
  object here h b c d (Named (AllOf line objects)) = ap (λ es. found_of es line) b
  object here h b c d (Named (AnyOf line objects)) = ap (λ es. found_of es line) c
  object here h b c d (Moving word) = ap (λ es. found_of es (word_number word)) d

  pub aggregate : (line : ℕ) (objects : List ObjectId) →
      ((n : ℕ) → found_of new.aggregates n ≡ with_if (nat_eq n line) (found_of old.aggregates n) at)
      → new.objects ≡ old.objects → new.properties ≡ old.properties → new.words ≡ old.words → (key : Key) →
      found_at new key ≡ with_if (is_name_key key (AllOf line objects)) (found_at old key) at
  aggregate line objects h a c d (Named (One other)) = ap (λ es. found_of es other.0) a
  aggregate line objects h a c d (Named (AllOf other others)) = h other
  aggregate line objects h a c d (Named (AnyOf other others)) = ap (λ es. found_of es other) c
  aggregate line objects h a c d (Moving word) = ap (λ es. found_of es (word_number word)) d

  pub property : (line : ℕ) (objects : List ObjectId) →
      ((n : ℕ) → found_of new.properties n ≡ with_if (nat_eq n line) (found_of old.properties n) at)
      → new.objects ≡ old.objects → new.aggregates ≡ old.aggregates → new.words ≡ old.words → (key : Key) →
      found_at new key ≡ with_if (is_name_key key (AnyOf line objects)) (found_at old key) at
  property line objects h a b d (Named (One other)) = ap (λ es. found_of es other.0) a
  property line objects h a b d (Named (AllOf other others)) = ap (λ es. found_of es other) b
  property line objects h a b d (Named (AnyOf other others)) = h other
  property line objects h a b d (Moving word) = ap (λ es. found_of es (word_number word)) d

  pub word_added : (word : MovementWord) → ((n : ℕ) →
      found_of new.words n ≡ with_if (nat_eq n (word_number word)) (found_of old.words n) at)
      → new.objects ≡ old.objects → new.aggregates ≡ old.aggregates → new.properties ≡ old.properties → (key : Key) →
      found_at new key ≡ with_if (is_word_key key (Some word)) (found_at old key) at
  word_added word h a b c (Named (One other)) = ap (λ es. found_of es other.0) a
  word_added word h a b c (Named (AllOf other others)) = ap (λ es. found_of es other) b
  word_added word h a b c (Named (AnyOf other others)) = ap (λ es. found_of es other) c
  word_added word h a b c (Moving other) = h (word_number other)

pub no_word_added : (index : Index) (at : ℕ) (key : Key) →
    found_at index key ≡ with_if (is_word_key key None) (found_at index key) at
no_word_added index at (Named meaning) = refl
no_word_added index at (Moving word) = refl

one-more : (p : Item → Bool) (old new : Found) (at : ℕ) (word : Option MovementWord) (meaning : Meaning)
    (rest : List Item) (b : Bool) → p (Is at word meaning) ≡ b → new ≡ with_if b old at
    → found_from new (numbers (filter p rest)) ≡ found_from old (numbers (filter p (Is at word meaning ∷ rest)))
one-more p old new at word meaning rest true e g = rw (e, g) refl
one-more p old new at word meaning rest false e g = rw (e, g) refl

pub item_added : (old mid new : Index) (at : ℕ) (word : Option MovementWord) (meaning : Meaning) →
    ((key : Key) → found_at mid key ≡ with_if (is_name_key key meaning) (found_at old key) at)
    → ((key : Key) → found_at new key ≡ with_if (is_word_key key word) (found_at mid key) at)
    → (key : Key) (rest : List Item) → found_from (found_at new key) (numbers (filter (has_key key) rest)) ≡ found_from
    (found_at old key) (numbers (filter (has_key key) (Is at word meaning ∷ rest)))
item_added old mid new at word meaning h k (Named name) rest =
    one-more (has_key (Named name)) (found_at old (Named name)) (found_at new (Named name)) at word meaning rest
    (same_meaning name meaning) refl (k (Named name) ∙ h (Named name))
item_added old mid new at word meaning h k (Moving other) rest =
    one-more (has_key (Moving other)) (found_at old (Moving other)) (found_at new (Moving other)) at word meaning rest
    (has_movement other word) refl
    (k (Moving other) ∙ ap (λ f. with_if (has_movement other word) f at) (h (Moving other)))

pub no_item_added : (found : Found) (meaning : Meaning) (key : Key) (rest : List Item) →
    found_from found (numbers (filter (has_key key) rest)) ≡ found_from found
    (numbers (filter (has_key key) (No meaning ∷ rest)))
no_item_added found meaning (Named name) rest = refl
no_item_added found meaning (Moving word) rest = refl
