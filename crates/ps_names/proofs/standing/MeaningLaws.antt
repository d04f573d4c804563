-- What a synonym stands for, and what a mention stands for that is none.
use Rattle.std.proofs.Common.{◌≡◌, ℕ, zero, suc, get_or, sym, ◌∙◌, ◌+◌, ◌<◌, arith, List, [], ◌∷◌, ◌++◌, length, drop}
use Rattle.std.proofs.Common.{map, true, Option, None, Some, refl, append_assoc}
use Rattle.std.specs.List.{enumerate_from}
use Rattle.std.proofs.Math.Seq.{drop-cons}
use Rattle.std.specs.Prelude.{option_and_then, slice_get}
use Rattle.ps_model.specs.declared.texts.Joiner.{Joiner}
use Rattle.ps_model.specs.declared.texts.Joiner.TheVariants.{Alone, And, Or}
use Rattle.ps_model.specs.names.Names.{Meaning}
use Rattle.ps_model.specs.names.Meanings.{LegendName, Mention, OfObject, OfLine, meaning_by_joiner, meaning_behind}
use Rattle.ps_names.specs.MeaningSteps.{alone, behind_synonym, joined_meaning, joined_at, joined_meanings, meaning_at}

by_joiner : (legend : List LegendName) (of_mention : Mention →
    Option Meaning) (joiner : Joiner) (name : LegendName) (next : Mention) → alone joiner name.mentions ≡ Some next
    → meaning_by_joiner of_mention legend joiner name ≡ of_mention next
by_joiner legend of_mention Alone name next e = rw e refl
by_joiner legend of_mention And name next e = cc
by_joiner legend of_mention Or name next e = cc

by_name : (legend : List LegendName) (of_mention : Mention → Option Meaning) (name : Option LegendName) (next : Mention)
    → option_and_then (λ name. alone name.joiner name.mentions) name ≡ Some next
    → option_and_then (λ name. meaning_by_joiner of_mention legend name.joiner name) name ≡ of_mention next
by_name legend of_mention None next e = cc
by_name legend of_mention (Some name) next e = by_joiner legend of_mention name.joiner name next e

-- a synonym stands for what it is one for
pub synonym-step : (legend : List LegendName) (most : ℕ) (mention next : Mention) →
    behind_synonym legend mention ≡ Some next
    → meaning_behind legend (suc most) mention ≡ meaning_behind legend most next
synonym-step legend most (OfObject object) next e = cc
synonym-step legend most (OfLine place) next e =
    by_name legend (meaning_behind legend most) (slice_get legend place) next e

joined-none : (legend : List LegendName) (of_mention : Mention →
    Option Meaning) (joiner : Joiner) (name : LegendName) → alone joiner name.mentions ≡ None
    → meaning_by_joiner of_mention legend joiner name ≡ joined_meaning legend joiner name
joined-none legend of_mention Alone name e = rw e refl
joined-none legend of_mention And name e = refl
joined-none legend of_mention Or name e = refl

got-joined : {A B : Type 0} (f : A → Option B) (xs : List A) (k : ℕ) →
    get_or (map f xs) k None ≡ option_and_then f (slice_get xs k)
got-joined f [] k = refl
got-joined f (x ∷ xs) zero = refl
got-joined f (x ∷ xs) (suc k) = got-joined f xs k

-- a line that is no synonym
pub no-synonym : (legend : List LegendName) (most place : ℕ) → behind_synonym legend (OfLine place) ≡ None
    → get_or (joined_meanings legend) place None ≡ meaning_behind legend (suc most) (OfLine place)
no-synonym legend most place none = got-joined (joined_at legend) legend place ∙ by (slice_get legend place) none
  where
    by : (name : Option LegendName) → option_and_then (λ name. alone name.joiner name.mentions) name ≡ None
        → option_and_then (joined_at legend) name ≡ option_and_then (λ name.
        meaning_by_joiner (meaning_behind legend most) legend name.joiner name) name
    by None n = refl
    by (Some name) n = sym (joined-none legend (meaning_behind legend most) name.joiner name n)

-- a name for a place that has none
abbrev no_name : LegendName
no_name = record { line = 0; name = []; joiner = Alone; mentions = []; all_declared = true }

-- the meaning of one name more
pub meanings-step : (legend : List LegendName) (made added : List (Option Meaning)) (meaning : Option Meaning)
    (k next : ℕ) → k < length legend → next ≡ suc k
    → added ≡ made ++ meaning ∷ [] → meaning ≡ meaning_behind legend (length legend) (OfLine k)
    → added ++ map (meaning_at legend) (enumerate_from next (drop next legend)) ≡ made ++ map (meaning_at legend)
    (enumerate_from k (drop k legend))
meanings-step legend made added meaning k next less n a m =
    let one : k + 1 ≡ suc k = omega arith in
    rw (n, drop-cons legend k no_name less, a, ← m, one)
    (append_assoc made (meaning ∷ []) (map (meaning_at legend) (enumerate_from (suc k) (drop (suc k) legend))))
