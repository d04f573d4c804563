-- Every object that a name of a text speaks of is one of those that are declared.
use Rattle.std.proofs.Common.{◌≡◌, ℕ, zero, suc, ◌+◌, ◌<◌, ◌≤◌, List, [], ◌∷◌, ◌++◌, length, map, refl, Option, Some}
use Rattle.std.proofs.Common.{None, All, arith}
use Rattle.std.specs.Prelude.{⊤, option_and_then, IfSome, slice_get}
use Rattle.std.specs.List.{filter_map, enumerate_from, flat_map, list_any, zip}
use Rattle.std.specs.Map.{lookup}
use Rattle.std.specs.Str.{bytes_eq}
use Rattle.std.proofs.lemmas.List.Elements.{All-nil, All-cons, All-head, All-tail, All-append, All-map}
use Rattle.std.proofs.lemmas.Map.Entries.{All-lookup}
use Rattle.ps_model.specs.declared.pieces.ObjectId.{ObjectId}
use Rattle.ps_model.specs.declared.texts.Joiner.{Joiner}
use Rattle.ps_model.specs.declared.texts.Joiner.TheVariants.{Alone, And, Or}
use Rattle.ps_model.specs.text.Lines.{folded}
use Rattle.ps_model.specs.names.Names.{Meaning}
use Rattle.ps_model.specs.names.NameBounds.{IsBelow}
use Rattle.ps_model.specs.text.WrittenLines.{WrittenLine}
use Rattle.ps_model.specs.names.ObjectLines.{ObjectText, object_names, names_of_object, name_of}
use Rattle.ps_model.specs.names.LegendLines.{Declaration, declarations}
use Rattle.ps_model.specs.names.Meanings.{LegendName, Mention, OfObject, OfLine, same_mention, mentions_of}
use Rattle.ps_model.specs.names.Meanings.{mentions_of_name, with_mentioned, all_mentioned, object_of, objects_of}
use Rattle.ps_model.specs.names.Meanings.{meaning_by_joiner, meaning_behind, legend_meanings, legend_name, legend_names}
use Rattle.ps_model.specs.names.Meanings.{known_names, object_mention, line_mention}
use Rattle.ps_model.specs.names.NamesRead.{Declared, object_declared, legend_declared, all_declared}
use Rattle.ps_laws.proofs.common.Everywhere.{either_way, All-always, All-mapped, All-filter_map, All-slice_get}

abbrev IsObject : ℕ → ObjectId → Type 0
IsObject count object = object.0 < count

-- what is mentioned ---------------------------------------------------------------------------------------------------

-- a mention of an object is one of `count`
abbrev IsMention : ℕ → Mention → Type 0
IsMention count (OfObject object) = object.0 < count
IsMention count (OfLine place) = ⊤

abbrev IsName : ℕ → LegendName → Type 0
IsName count name = All (IsMention count) name.mentions

of_name-below : (count : ℕ) (legend : List LegendName) (place : ℕ) (name : Option LegendName) →
    slice_get legend place ≡ name → All (IsName count) legend → All (IsMention count) (mentions_of_name name)
of_name-below count legend place None e all = All-nil (IsMention count)
of_name-below count legend place (Some name) e all = All-slice_get (IsName count) legend place name all e

mentions_of-below : (count : ℕ) (legend : List LegendName) (mention : Mention) → All (IsName count) legend →
    All (IsMention count) (mentions_of legend mention)
mentions_of-below count legend (OfObject object) all = All-nil (IsMention count)
mentions_of-below count legend (OfLine place) all = of_name-below count legend place (slice_get legend place) refl all

with_mentioned-below : (count : ℕ) (legend : List LegendName) → All (IsName count) legend →
    (steps : ℕ) (listed mentions : List Mention) → All (IsMention count) listed → All (IsMention count) mentions →
    All (IsMention count) (with_mentioned legend steps listed mentions)
with_mentioned-below count legend names steps listed [] all each = all
with_mentioned-below count legend names zero listed (mention ∷ others) all each = all
with_mentioned-below count legend names (suc steps) listed (mention ∷ others) all each =
    let rest : All (IsMention count) others = All-tail (IsMention count) mention others each in
    either_way (All (IsMention count)) (list_any (same_mention mention) listed)
    (with_mentioned legend steps listed others)
    (with_mentioned legend steps (listed ++ mention ∷ []) (mentions_of legend mention ++ others))
    (with_mentioned-below count legend names steps listed others all rest)
    (with_mentioned-below count legend names steps (listed ++ mention ∷ []) (mentions_of legend mention ++ others)
    (All-append (IsMention count) listed (mention ∷ []) all
    (All-cons (IsMention count) mention [] (All-head (IsMention count) mention others each)
    (All-nil (IsMention count))))
    (All-append (IsMention count) (mentions_of legend mention) others (mentions_of-below count legend mention names)
    rest))

object_of-below : (count : ℕ) (mention : Mention) → IsMention count mention →
    IfSome (object_of mention) (IsObject count)
object_of-below count (OfObject object) h = h
object_of-below count (OfLine place) h = tt

objects_of-below : (count : ℕ) (legend : List LegendName) (name : LegendName) → All (IsName count) legend →
    IsName count name → All (IsObject count) (objects_of legend name)
objects_of-below count legend name names h =
    All-filter_map (IsObject count) (IsMention count) object_of (all_mentioned legend name.mentions)
    (object_of-below count)
    (with_mentioned-below count legend names _ [] name.mentions (All-nil (IsMention count)) h)

-- what names stand for ------------------------------------------------------------------------------------------------

abbrev IsBelowIf : ℕ → Option Meaning → Type 0
IsBelowIf count meaning = IfSome meaning (IsBelow count)

abbrev Means : ℕ → (Mention → Option Meaning) → Type 0
Means count of_mention = (mention : Mention) → IsMention count mention → IsBelowIf count (of_mention mention)

alone-below : (count : ℕ) (of_mention : Mention → Option Meaning) (mentions : List Mention) → Means count of_mention →
    All (IsMention count) mentions →
    IsBelowIf count (option_and_then of_mention (slice_get mentions 0))
alone-below count of_mention [] means all = tt
alone-below count of_mention (mention ∷ mentions) means all =
    means mention (All-head (IsMention count) mention mentions all)

meaning_by-below : (count : ℕ) (of_mention : Mention →
    Option Meaning) (legend : List LegendName) (joiner : Joiner) (name : LegendName) → Means count of_mention →
    All (IsName count) legend → IsName count name →
    IsBelowIf count (meaning_by_joiner of_mention legend joiner name)
meaning_by-below count of_mention legend Alone name means names h = alone-below count of_mention name.mentions means h
meaning_by-below count of_mention legend And name means names h = objects_of-below count legend name names h
meaning_by-below count of_mention legend Or name means names h = objects_of-below count legend name names h

named-below : (count : ℕ) (of_mention : Mention →
    Option Meaning) (legend : List LegendName) (place : ℕ) (name : Option LegendName) → slice_get legend place ≡ name →
    Means count of_mention →
    All (IsName count) legend → IsBelowIf count
    (option_and_then (λ name. meaning_by_joiner of_mention legend name.joiner name) name)
named-below count of_mention legend place None e means names = tt
named-below count of_mention legend place (Some name) e means names =
    meaning_by-below count of_mention legend name.joiner name means names
    (of_name-below count legend place (Some name) e names)

-- what a mention stands for speaks of these objects
meaning_behind-below : (count : ℕ) (legend : List LegendName) → All (IsName count) legend → (most : ℕ) →
    Means count (meaning_behind legend most)
meaning_behind-below count legend names most (OfObject object) h =
    All-cons (IsObject count) object [] h (All-nil (IsObject count))
meaning_behind-below count legend names zero (OfLine place) h = tt
meaning_behind-below count legend names (suc most) (OfLine place) h =
    named-below count (meaning_behind legend most) legend place (slice_get legend place) refl
    (meaning_behind-below count legend names most) names

-- names ---------------------------------------------------------------------------------------------------------------

abbrev IsNamed : ℕ → List ℕ × ObjectId → Type 0
IsNamed count named = named.1.0 < count

own_names-below : (count : ℕ) (object : ObjectId) (words : List (List ℕ)) → object.0 < count →
    All (IsNamed count) (map (name_of object) words)
own_names-below count object words h = All-map (IsNamed count) (name_of object) words
    (All-always (λ word. object.0 < count) words (λ word. h))

object_names-below : (count number : ℕ) (objects : List ObjectText) → number + length objects ≤ count →
    All (IsNamed count) (flat_map names_of_object (enumerate_from number objects))
object_names-below count number [] h = All-nil (IsNamed count)
object_names-below count number (object ∷ objects) h =
    All-append (IsNamed count) (map (name_of (record { 0 = number })) object.words)
    (flat_map names_of_object (enumerate_from (number + 1) objects))
    (own_names-below count (record { 0 = number }) object.words (omega arith))
    (object_names-below count (number + 1) objects (omega arith))

abbrev IsKnown : ℕ → List ℕ × Mention → Type 0
IsKnown count known = IsMention count known.1

known_names-below : (count : ℕ) (names : List (List ℕ × ObjectId)) (declared : List Declaration) →
    All (IsNamed count) names → All (IsKnown count) (known_names names declared)
known_names-below count names declared all =
    All-append (IsKnown count) (map object_mention names) (map line_mention (enumerate_from 0 declared))
    (All-map (IsKnown count) object_mention names all)
    (All-map (IsKnown count) line_mention (enumerate_from 0 declared)
    (All-always (λ numbered. ⊤) (enumerate_from 0 declared) (λ numbered. tt)))

legend_name-below : (count : ℕ) (known : List (List ℕ × Mention)) (declared : Declaration) →
    All (IsKnown count) known → IsName count (legend_name known declared)
legend_name-below count known declared all =
    let found : List ℕ → Option Mention = λ name. lookup (bytes_eq (folded name)) known in
    All-filter_map (IsMention count) (λ mention. IfSome mention (IsMention count)) (λ mention.
    mention) (map found declared.right.mentions) (λ mention h. h)
    (All-map (λ (mention : Option Mention). IfSome mention (IsMention count)) found declared.right.mentions
    (All-always (λ name. IfSome (found name) (IsMention count)) declared.right.mentions (λ name.
    All-lookup (IsMention count) (bytes_eq (folded name)) known all)))

-- what a name declares speaks of `count` objects
abbrev pub Speaks : ℕ → Declared → Type 0
Speaks count declared = IsBelow count declared.meaning

object_declared-below : (count : ℕ) (named : List ℕ × ObjectId) → IsNamed count named →
    Speaks count (object_declared named)
object_declared-below count named h = All-cons (IsObject count) named.1 [] h (All-nil (IsObject count))

one_declared-below : (count : ℕ) (name : LegendName) (meaning : Option Meaning) → IsBelowIf count meaning →
    IfSome (legend_declared (name, meaning)) (Speaks count)
one_declared-below count name None h = tt
one_declared-below count name (Some meaning) h = h

zip-second : {A B : Type 0} (P : B → Type 0) (firsts : List A) (seconds : List B) → All P seconds →
    All (λ pair. P pair.1) (zip firsts seconds)
zip-second P [] seconds all = All-nil (λ (pair : _ × _). P pair.1)
zip-second P (first ∷ firsts) [] all = All-nil (λ (pair : _ × _). P pair.1)
zip-second P (first ∷ firsts) (second ∷ seconds) all =
    All-cons (λ (pair : _ × _). P pair.1) (first, second) (zip firsts seconds) (All-head P second seconds all)
    (zip-second P firsts seconds (All-tail P second seconds all))

-- all names speak of the objects that there are
pub all_declared-below : (objects : List ObjectText) (lines : List WrittenLine) →
    All (Speaks (length objects)) (all_declared objects (legend_names (object_names objects) (declarations lines))
    (legend_meanings (legend_names (object_names objects) (declarations lines))))
all_declared-below objects lines =
    let count : ℕ = length objects in
    let declared : List Declaration = declarations lines in
    let known : List (List ℕ × Mention) = known_names (object_names objects) declared in
    let legend : List LegendName = legend_names (object_names objects) declared in
    let names : All (IsNamed count) (object_names objects) = object_names-below count 0 objects (omega arith) in
    let mentions : All (IsName count) legend =
    All-map (IsName count) (legend_name known) declared
    (All-always (λ each. IsName count (legend_name known each)) declared (λ each.
    legend_name-below count known each (known_names-below count (object_names objects) declared names))) in
    let meanings : All (IsBelowIf count) (legend_meanings legend) =
    All-map (IsBelowIf count) (λ numbered. meaning_behind legend (length legend) (OfLine numbered.0))
    (enumerate_from 0 legend)
    (All-always (λ (numbered : ℕ × LegendName).
    IsBelowIf count (meaning_behind legend (length legend) (OfLine numbered.0))) (enumerate_from 0 legend)
    (λ numbered. meaning_behind-below count legend mentions (length legend) (OfLine numbered.0) tt)) in
    All-append (Speaks count) (map object_declared (object_names objects))
    (filter_map legend_declared (zip legend (legend_meanings legend)))
    (All-mapped (Speaks count) (IsNamed count) object_declared (object_names objects) (object_declared-below count)
    names)
    (All-filter_map (Speaks count) (λ (each : LegendName × Option Meaning).
    IsBelowIf count each.1) legend_declared (zip legend (legend_meanings legend)) (λ each h.
    one_declared-below count each.0 each.1 h)
    (zip-second (IsBelowIf count) legend (legend_meanings legend) meanings))
