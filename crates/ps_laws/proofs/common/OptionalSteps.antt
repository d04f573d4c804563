-- What a value has that steps come to which may fail.
use Rattle.std.proofs.Common.{Bool, true, false, Option, Some, None, List, [], ◌∷◌}
use Rattle.std.specs.Prelude.{All, IfSome, option_map}
use Rattle.std.proofs.lemmas.List.Elements.{All-nil, All-cons, All-head, All-tail}
use Rattle.ps_model.specs.text.OptionSteps.{◌>>=◌, only_if, all_there}

-- a step that may fail, after another
pub step-each : {A B : Type 0} (P : A → Type 0) (Q : B → Type 0) (found : Option A) (next : A → Option B) →
    IfSome found P → ((a : A) → P a → IfSome (next a) Q) → IfSome (found >>= next) Q
step-each P Q None next h k = tt
step-each P Q (Some a) next h k = k a h

-- a step that doesn't fail, after one that may
pub mapped-each : {A B : Type 0} (P : A → Type 0) (Q : B → Type 0) (found : Option A) (f : A → B) → IfSome found P →
    ((a : A) → P a → Q (f a)) → IfSome (option_map f found) Q
mapped-each P Q None f h k = tt
mapped-each P Q (Some a) f h k = k a h

-- a value, if a test holds
pub only_if-each : {A : Type 0} (P : A → Type 0) (test : Bool) (a : A) → P a → IfSome (only_if test a) P
only_if-each P true a h = h
only_if-each P false a h = tt

-- all values of a list, if each is there
one-there : {A : Type 0} (P : A → Type 0) (a : A) (others : Option (List A)) → P a → IfSome others (All P) →
    IfSome (option_map (λ others. a ∷ others) others) (All P)
one-there P a None h all = tt
one-there P a (Some others) h all = All-cons P a others h all

pub all_there-each : {A : Type 0} (P : A → Type 0) (found : List (Option A)) → All (λ o. IfSome o P) found →
    IfSome (all_there found) (All P)
all_there-each P [] all = All-nil P
all_there-each P (None ∷ found) all = tt
all_there-each P (Some a ∷ found) all =
    one-there P a (all_there found) (All-head (λ (o : Option _). IfSome o P) (Some a) found all)
    (all_there-each P found (All-tail (λ (o : Option _). IfSome o P) (Some a) found all))
