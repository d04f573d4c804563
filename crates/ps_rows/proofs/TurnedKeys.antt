-- Places that are turned round one after the other.
use Rattle.std.proofs.Common.{◌≡◌, ◌∙◌, ℕ, Bool, true, false, List, refl, sym, ap, ap₂}
use Rattle.ps_rows.specs.PackedKeys.{AreTurned, IsWithin, KeepsKeys, Turned, TurnedBut, differs, flipped}

pub flipped_own : (a : Bool) → flipped a a ≡ false
flipped_own true = refl
flipped_own false = refl

pub flipped_both : (s a b : Bool) → flipped (flipped s a) (flipped s b) ≡ flipped a b
flipped_both true true true = refl
flipped_both true true false = refl
flipped_both true false true = refl
flipped_both true false false = refl
flipped_both false a b = refl

pub flipped_assoc : (a b d : Bool) → flipped (flipped a b) d ≡ flipped a (flipped b d)
flipped_assoc true true true = refl
flipped_assoc true true false = refl
flipped_assoc true false d = refl
flipped_assoc false b d = refl

pub flipped_back : (a b : Bool) → flipped (flipped a b) a ≡ b
flipped_back true true = refl
flipped_back true false = refl
flipped_back false true = refl
flipped_back false false = refl

module _ (which before : ℕ → Bool) where
  pub turned-init : (rest : ℕ → Bool) → ((place : ℕ) → rest place ≡ which place) → TurnedBut rest which before before
  turned-init rest all = λ place. ap (λ (b : Bool). flipped b (before place)) (all place)

  pub turned-more : (rest less step now after : ℕ → Bool) → TurnedBut rest which before now → Turned step now after →
      ((place : ℕ) → less place ≡ flipped (step place) (rest place)) → TurnedBut less which before after
  turned-more rest less step now after was turned left = λ place.
      ap₂ flipped (left place) (turned place) ∙ flipped_both (step place) (rest place) (now place) ∙ was place

  pub turned-all : (rest after : ℕ → Bool) → TurnedBut rest which before after → ((place : ℕ) → rest place ≡ false) →
      Turned which before after
  turned-all rest after was none = λ place.
      sym (ap (λ (b : Bool). flipped b (after place)) (none place)) ∙ was place

-- keys -----------------------------------------------------------------------------------------------------------------

-- some places of a key are turned round, but for the rest
pub record TurnedSoFar (rest which : ℕ → Bool) (numbers : List ℕ) (count : ℕ) (words more : List ℕ) (counted : ℕ)
    (after : List ℕ) : Type 0 where
  pub within : IsWithin counted after
  pub turned : TurnedBut rest which (differs numbers words) (differs more after)
  pub kept : KeepsKeys numbers count more counted

module _ (which : ℕ → Bool) (numbers : List ℕ) (count : ℕ) (words : List ℕ) where
  pub so_far-init : (rest : ℕ → Bool) → ((place : ℕ) → rest place ≡ which place) → IsWithin count words →
      TurnedSoFar rest which numbers count words numbers count words
  so_far-init rest all low = record {
    within = low;
    turned = turned-init which (differs numbers words) rest all;
    kept = λ others few. (few, λ place. refl);
  }

  pub kept-more : (more : List ℕ) (counted : ℕ) (most : List ℕ) (last : ℕ) → KeepsKeys numbers count more counted →
      KeepsKeys more counted most last → KeepsKeys numbers count most last
  kept-more more counted most last first second = λ others few.
      let one = first others few in
      let two = second others one.0 in
      (two.0, λ place. two.1 place ∙ one.1 place)

  pub so_far-more : (rest less step : ℕ → Bool) (more : List ℕ) (counted : ℕ) (after most : List ℕ) (last : ℕ)
      (end : List ℕ) → TurnedSoFar rest which numbers count words more counted after →
      KeepsKeys more counted most last → AreTurned step more after last most end →
      ((place : ℕ) → less place ≡ flipped (step place) (rest place)) →
      TurnedSoFar less which numbers count words most last end
  so_far-more rest less step more counted after most last end was kept turned left = record {
    within = turned.within;
    turned = turned-more which (differs numbers words) rest less step (differs more after) (differs most end) was.turned
        turned.turned left;
    kept = kept-more more counted most last was.kept kept;
  }

  pub so_far-all : (rest : ℕ → Bool) (more : List ℕ) (counted : ℕ) (after : List ℕ) →
      TurnedSoFar rest which numbers count words more counted after → ((place : ℕ) → rest place ≡ false) →
      AreTurned which numbers words counted more after
  so_far-all rest more counted after was none = record {
    within = was.within;
    turned = turned-all which (differs numbers words) rest (differs more after) was.turned none;
  }
