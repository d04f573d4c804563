-- The ends after synonyms.
use Rattle.std.proofs.Common.{◌≡◌, ◌≢◌, ◌∙◌, ℕ, zero, suc, ◌+◌, ◌<◌, ◌≤◌, Bool, true, false, List, Option, None, Some}
use Rattle.std.proofs.Common.{length, replicate, get_or, refl, sym, ap, arith}
use Rattle.std.specs.Prelude.{nat_eq, nat_lt, slice_set, slice_get, option_and_then}
use Rattle.std.proofs.Math.Seq.{set_out}
use Rattle.std.proofs.lemmas.List.{get_or-set_same, get_or-set_other, get_or-replicate, get_or_past, length-replicate}
use Rattle.std.proofs.lemmas.Bool.Decides.{nat_tests}
use Rattle.ps_model.specs.declared.texts.Joiner.{Joiner}
use Rattle.ps_model.specs.declared.texts.Joiner.TheVariants.{Alone, And, Or}
use Rattle.ps_model.specs.names.Meanings.{LegendName, Mention, OfObject, OfLine, meaning_by_joiner, meaning_behind}
use Rattle.ps_names.specs.declared.ends.End.{End}
use Rattle.ps_names.specs.declared.ends.End.TheVariants.{Unknown}
use Rattle.ps_names.specs.MeaningSteps.{behind_synonym}
use Rattle.ps_names.specs.Ends.{StandsBehind, StandsForNothing, IsEnd, AreEnds}
use Rattle.ps_names.proofs.standing.MeaningLaws.{synonym-step}

module _ (legend : List LegendName) where
  -- nothing is after no synonym
  pub at-once : (mention : Mention) → StandsBehind legend mention 0 mention
  at-once mention most = let same : 0 + most ≡ most = omega arith in ap (λ n. meaning_behind legend n mention) same

  -- a synonym stands one before
  pub one-before : (mention next last : Mention) (passed : ℕ) → behind_synonym legend mention ≡ Some next →
      StandsBehind legend next passed last → StandsBehind legend mention (passed + 1) last
  one-before mention next last passed e stands most =
      let more : passed + 1 + most ≡ suc (passed + most) = omega arith in
      ap (λ n. meaning_behind legend n mention) more ∙ synonym-step legend (passed + most) mention next e ∙ stands most

  -- what it is one for stands one after
  pub one-behind : (mention last next : Mention) (passed : ℕ) → StandsBehind legend mention passed last →
      behind_synonym legend last ≡ Some next → StandsBehind legend mention (passed + 1) next
  one-behind mention last next passed stands e most =
      let more : passed + 1 + most ≡ passed + suc most = omega arith in
      ap (λ n. meaning_behind legend n mention) more ∙ stands (suc most) ∙ synonym-step legend most last next e

  -- a synonym for what stands for nothing
  pub nothing-before : (mention next : Mention) → behind_synonym legend mention ≡ Some next →
      StandsForNothing legend next → StandsForNothing legend mention
  nothing-before (OfObject object) next e nothing most = cc
  nothing-before (OfLine place) next e nothing zero = refl
  nothing-before (OfLine place) next e nothing (suc most) = synonym-step legend most (OfLine place) next e
      ∙ nothing most

  less-mention : (most : ℕ) → ((mention : Mention) → meaning_behind legend (suc most) mention ≡ None →
      meaning_behind legend most mention ≡ None)
      → (mention : Option Mention) → option_and_then (meaning_behind legend (suc most)) mention ≡ None →
      option_and_then (meaning_behind legend most) mention ≡ None
  less-mention most less None e = refl
  less-mention most less (Some mention) e = less mention e

  less-name : (most : ℕ) → ((mention : Mention) → meaning_behind legend (suc most) mention ≡ None →
      meaning_behind legend most mention ≡ None)
      → (joiner : Joiner) (name : LegendName) →
      meaning_by_joiner (meaning_behind legend (suc most)) legend joiner name ≡ None →
      meaning_by_joiner (meaning_behind legend most) legend joiner name ≡ None
  less-name most less Alone name e = less-mention most less (slice_get name.mentions 0) e
  less-name most less And name e = cc
  less-name most less Or name e = cc

  less-line : (most : ℕ) → ((mention : Mention) → meaning_behind legend (suc most) mention ≡ None →
      meaning_behind legend most mention ≡ None)
      → (name : Option LegendName) → option_and_then (λ name.
      meaning_by_joiner (meaning_behind legend (suc most)) legend name.joiner name) name ≡ None
      → option_and_then (λ name. meaning_by_joiner (meaning_behind legend most) legend name.joiner name) name ≡ None
  less-line most less None e = refl
  less-line most less (Some name) e = less-name most less name.joiner name e

  -- what stands for nothing after a synonym more stands for nothing
  none-below : (most : ℕ) (mention : Mention) → meaning_behind legend (suc most) mention ≡ None →
      meaning_behind legend most mention ≡ None
  none-below most (OfObject object) e = cc
  none-below zero (OfLine place) e = refl
  none-below (suc most) (OfLine place) e = less-line most (none-below most) (slice_get legend place) e

  none-further : (most further : ℕ) (mention : Mention) → meaning_behind legend (further + most) mention ≡ None →
      meaning_behind legend most mention ≡ None
  none-further most zero mention e = let same : 0 + most ≡ most = omega arith in
      ap (λ n. meaning_behind legend n mention) (sym same) ∙ e
  none-further most (suc further) mention e =
      let more : suc further + most ≡ suc (further + most) = omega arith in
      none-further most further mention (none-below (further + most) mention
      (ap (λ n. meaning_behind legend n mention) (sym more) ∙ e))

  -- a line that stands after itself stands for nothing
  pub never-ends : (place passed : ℕ) → StandsBehind legend (OfLine place) (passed + 1) (OfLine place) →
      StandsForNothing legend (OfLine place)
  never-ends place passed stands zero = refl
  never-ends place passed stands (suc most) =
      let more : passed + suc most ≡ passed + 1 + most = omega arith in
      none-further (suc most) passed (OfLine place) (ap (λ n. meaning_behind legend n (OfLine place)) more
      ∙ stands most ∙ never-ends place passed stands most)

  -- one end more is known
  pub more-ends : (ends : List End) (new : ℕ) (end : End) → AreEnds legend ends → IsEnd legend (OfLine new) end →
      AreEnds legend (slice_set ends new end)
  more-ends ends new end are is place = by (nat_eq place new) (nat_lt new (length ends)) refl refl
    where
      by : (same within : Bool) → nat_eq place new ≡ same → nat_lt new (length ends) ≡ within →
          IsEnd legend (OfLine place) (get_or (slice_set ends new end) place Unknown)
      by same false q r =
          let past : length ends ≤ new = grind (arith, nat_tests) in
          let e : slice_set ends new end ≡ ends = set_out ends new end past in
          rw e (are place)
      by true true q r =
          let e : place ≡ new = grind (arith, nat_tests) in
          let less : new < length ends = grind (arith, nat_tests) in
          let f : get_or (slice_set ends new end) new Unknown ≡ end = get_or-set_same ends new end Unknown less in
          rw (e, f) is
      by false true q r =
          let n : place ≢ new = grind (arith, nat_tests) in
          let f : get_or (slice_set ends new end) place Unknown ≡ get_or ends place Unknown =
          get_or-set_other ends new place end Unknown n in
          rw f (are place)

  pub ends-set : (old new : List End) (k : ℕ) (end : End) → new ≡ slice_set old k end → AreEnds legend old →
      IsEnd legend (OfLine k) end → AreEnds legend new
  ends-set old new k end e are is = rw e (more-ends old k end are is)

  unknown-at : (n place : ℕ) → get_or (replicate n Unknown) place Unknown ≡ Unknown
  unknown-at n place = by (nat_lt place n) refl
    where
      by : (within : Bool) → nat_lt place n ≡ within → get_or (replicate n Unknown) place Unknown ≡ Unknown
      by true q = get_or-replicate n place Unknown Unknown (grind (arith, nat_tests))
      by false q = let past : n ≤ place = grind (arith, nat_tests) in
          get_or_past (replicate n Unknown) place Unknown (rw length-replicate past)

  -- at first no end is known
  pub none-known : (ends : List End) (n : ℕ) → ends ≡ replicate n Unknown → AreEnds legend ends
  none-known ends n e place =
      let u : get_or ends place Unknown ≡ Unknown = ap (λ es. get_or es place Unknown) e ∙ unknown-at n place in rw u tt
