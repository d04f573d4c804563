-- Situations keep their numbers, and what is kept of spots its meaning.
use Rattle.std.proofs.Common.{◌≡◌, ◌∙◌, ℕ, ◌<◌, zero, suc, ◌++◌, ◌∷◌, [], ◌⊎◌, inl, inr, List, Option, None, Some}
use Rattle.std.proofs.Common.{length, sym, ap, subst, slice_get, Result, Ok, Err}
use Rattle.std.specs.Prelude.{OnOk}
use Rattle.std.proofs.lemmas.Option.{get_or_from_slice_get, same_Some, slice_get_within}
use Rattle.ps_search.specs.Steps.{IsStep}
use Rattle.ps_search.specs.declared.moves.Step.{Step}
use Rattle.ps_solve.specs.Situations.{IsKept, KeepsSituations, spot_kept}
use Rattle.ps_solve.specs.SpotKeys.{IsSpotKey, KeyTable, spot_at}
use Rattle.ps_solve.specs.declared.situations.Situation.{Situation}

there_kept : {A : Type 0} (xs more : List A) (number : ℕ) (x : A) → slice_get xs number ≡ Some x →
    slice_get (xs ++ more) number ≡ Some x
there_kept [] more number x at = cc
there_kept (first ∷ xs) more zero x at = at
there_kept (first ∷ xs) more (suc number) x at = there_kept xs more number x at

-- where there are no others, each keeps its number
pub same_situations : (old new : List Situation) → new ≡ old → KeepsSituations old new
same_situations old new same = λ number own at.
    subst (λ (all : List Situation). slice_get all number ≡ Some own) (sym same) at

-- one more changes no number
pub noted_situations : (old new : List Situation) (situation : Situation) →
    (new ≡ old) ⊎ (new ≡ old ++ situation ∷ []) → KeepsSituations old new
noted_situations old new situation (inl same) = same_situations old new same
noted_situations old new situation (inr longer) = λ number own at.
    subst (λ (all : List Situation). slice_get all number ≡ Some own) (sym longer)
    (there_kept old (situation ∷ []) number own at)

-- the spot of which is kept what has a number
pub spot_is : (keys : KeyTable) (situations : List Situation) (words : List ℕ) (number : ℕ) (situation : Situation) →
    slice_get situations number ≡ Some situation →
    spot_kept keys situations words number ≡ spot_at keys words situation.restart situation.waits
spot_is keys situations words number situation at =
    ap (λ (s : Situation). spot_at keys words s.restart s.waits)
    (get_or_from_slice_get situations number situation (record { restart = 0; waits = None }) at)

-- what is kept has a situation's number
pub number_within : (keys : KeyTable) (situations : List Situation) (words : List ℕ) (number : ℕ) →
    IsKept keys situations words number → number < length situations
number_within keys situations words number is = slice_get_within situations number is.0 is.1

-- what is kept goes on to stand for what it did
pub kept_on : (old new : KeyTable) (before now : List Situation) (words : List ℕ) (number : ℕ) →
    KeepsSituations before now →
    ((situation : Situation) → IsSpotKey old words situation.restart →
    IsSpotKey new words situation.restart
    × (spot_at new words situation.restart situation.waits ≡ spot_at old words situation.restart situation.waits)) →
    IsKept old before words number →
    IsKept new now words number × (spot_kept new now words number ≡ spot_kept old before words number)
kept_on old new before now words number situations keys is =
    let own = keys is.0 is.2 in
    let at = situations number is.0 is.1 in (
      (is.0, at, own.0),
      spot_is new now words number is.0 at ∙ own.1 ∙ sym (spot_is old before words number is.0 is.1),
    )

-- what is kept of the spot of a key stands for it
pub kept_stands : (keys : KeyTable) (situations : List Situation) (words own : List ℕ) (number : ℕ)
    (situation : Situation) → own ≡ words → slice_get situations number ≡ Some situation →
    IsSpotKey keys words situation.restart →
    IsKept keys situations own number
    × (spot_kept keys situations own number ≡ spot_at keys words situation.restart situation.waits)
kept_stands keys situations words own number situation same at known = (
  (situation, at, subst (λ (ws : List ℕ). IsSpotKey keys ws situation.restart) (sym same) known),
  spot_is keys situations own number situation at
      ∙ ap (λ (ws : List ℕ). spot_at keys ws situation.restart situation.waits) same,
)

-- the situation with a number is the one of a key
pub key_known : (keys : KeyTable) (situations : List Situation) (words own : List ℕ) (number : ℕ)
    (situation : Situation) → own ≡ words → slice_get situations number ≡ Some situation →
    IsKept keys situations words number → IsSpotKey keys own situation.restart
key_known keys situations words own number situation same at is =
    let alike : is.0 ≡ situation = same_Some is.0 situation (sym is.1 ∙ at) in
    subst (λ (ws : List ℕ). IsSpotKey keys ws situation.restart) (sym same)
    (subst (λ (s : Situation). IsSpotKey keys words s.restart) alike is.2)

-- and the key stands for the spot
pub key_stands : (keys : KeyTable) (situations : List Situation) (words own : List ℕ) (number : ℕ)
    (situation : Situation) → own ≡ words → slice_get situations number ≡ Some situation →
    spot_at keys own situation.restart situation.waits ≡ spot_kept keys situations words number
key_stands keys situations words own number situation same at =
    ap (λ (ws : List ℕ). spot_at keys ws situation.restart situation.waits) same
    ∙ sym (spot_is keys situations words number situation at)

-- what a step tells
pub step_told : {Place Key : Type 0} (is_key : Key → Type 0) (place : Key → Place) (here : Place) (led : Option Place)
    (step known : Step Key) → IsStep is_key place here led step → step ≡ known → IsStep is_key place here led known
step_told is_key place here led step known is same = subst (IsStep is_key place here led) same is
