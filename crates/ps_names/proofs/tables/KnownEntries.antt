-- Look-ups in the code's table are look-ups among the names that are known.
use Rattle.std.proofs.lemmas.List.Quantifiers.{position-Some}
use Rattle.std.specs.Prelude.{slice_index_or}
use Rattle.std.specs.List.{position}
use Rattle.std.proofs.Common.{zero, suc, ◌<◌, length, arith, subst, ◌≡◌, ℕ, List, [], ◌∷◌, ◌++◌, Bool, true, false}
use Rattle.std.proofs.Common.{cond, map, refl, ap, ◌∙◌, Option, None, Some, String, Global, is_some, ◌||◌, option_map}
use Rattle.std.specs.String.{string_bytes, string_eq}
use Rattle.std.specs.Map.{lookup}
use Rattle.std.specs.List.{list_any}
use Rattle.std.specs.Str.{bytes_eq}
use Rattle.std.proofs.lemmas.List.{map-append, length-map}
use Rattle.std.proofs.lemmas.Bool.{or_parts}
use Rattle.indexmap.specs.IndexMap.{IndexMap, insert_entry, get}
use Rattle.indexmap.proofs.CallerLemmas.{insert_entry-new}
use Rattle.ps_model.specs.names.Meanings as model
use Rattle.ps_model.specs.text.Lines.{folded}
use Rattle.ps_model.specs.names.ObjectLines.{one_character}
use Rattle.ps_names.specs.declared.mention.Mention.{Mention}
use Rattle.ps_names.specs.declared.known.NameDetails.{NameDetails}
use Rattle.ps_names.specs.Known.{Named, named_shown, named_as, keys, mentions_of_names, mention_shown}

-- whose a known name is
abbrev pub details_mention : NameDetails → model.Mention
details_mention details = mention_shown details.mention

shown_if : (test : Bool) (e : NameDetails) (found : Option NameDetails) (rest : Option model.Mention) →
    option_map details_mention found ≡ rest
    → option_map details_mention (cond test (Some e) found) ≡ cond test (Some (details_mention e)) rest
shown_if true e found rest h = refl
shown_if false e found rest h = h

pub lookup-shown : (name : List ℕ) (es : List (String Global × NameDetails))
    → option_map details_mention (lookup (λ k. bytes_eq name (string_bytes k)) es) ≡ lookup (bytes_eq name)
    (mentions_of_names (map named_shown es))
lookup-shown name [] = refl
lookup-shown name (e ∷ es) = shown_if (bytes_eq name (string_bytes e.0)) e.1 _ _ (lookup-shown name es)

found_if : (test : Bool) (e : NameDetails) (found : Option NameDetails) (rest : Bool) → is_some found ≡ rest →
    is_some (cond test (Some e) found) ≡ (test || rest)
found_if true e found rest h = refl
found_if false e found rest h = h

pub is_some-lookup-shown : (name : List ℕ) (es : List (String Global × NameDetails))
    → is_some (lookup (λ k. bytes_eq name (string_bytes k)) es) ≡ list_any (bytes_eq name) (keys (map named_shown es))
is_some-lookup-shown name [] = refl
is_some-lookup-shown name (e ∷ es) = found_if (bytes_eq name (string_bytes e.0)) e.1 _ _ (is_some-lookup-shown name es)

none_from : {A : Type 0} (o : Option A) → is_some o ≡ false → o ≡ None
none_from None h = refl
none_from (Some a) h = cc

-- a new name goes last
insert-shown : {S : Type 0} (m : IndexMap (String Global) NameDetails S) (es : List (String Global × NameDetails))
    (k : String Global) (v : NameDetails) (name : List ℕ)
    → es ≡ insert_entry string_eq m.entries k v → string_bytes k ≡ name →
    is_some (lookup (λ k. bytes_eq name (string_bytes k)) m.entries) ≡ false
    → map named_shown es ≡ map named_shown m.entries ++ named_shown (k, v) ∷ []
insert-shown m es k v name e b none =
    let none' : is_some (get string_eq m k) ≡ false =
    ap (λ (n : List ℕ). is_some (lookup (λ k'. bytes_eq n (string_bytes k')) m.entries)) b ∙ none in
    rw (e, insert_entry-new string_eq m k v (none_from _ none'), map-append) refl

-- a new name as it is written goes last
pub insert-named : {S : Type 0} (m : IndexMap (String Global) NameDetails S) (es : List (String Global × NameDetails))
    (k : String Global) (character : Option ℕ) (mention : Mention)
    (written : List ℕ) (old : List Named) → map named_shown m.entries ≡ old →
    es ≡ insert_entry string_eq m.entries k (record { character = character; mention = mention })
    → string_bytes k ≡ folded written → character ≡ one_character written
    → is_some (lookup (λ k. bytes_eq (folded written) (string_bytes k)) m.entries) ≡ false
    → map named_shown es ≡ old ++ named_as (mention_shown mention) written ∷ []
insert-named m es k character mention written old v e b ch none =
    insert-shown m es k (record { character = character; mention = mention }) (folded written) e b none
    ∙ rw (v, b, ch) refl

-- before the place of a name stand others
pub before-shown : (name : List ℕ) (es : List (String Global × NameDetails)) (i : ℕ) →
    position (λ k. bytes_eq name (string_bytes k)) (map (λ e. e.0) es) ≡ Some i
    → (k : ℕ) → k < i → bytes_eq name (slice_index_or (keys (map named_shown es)) k []) ≡ false
before-shown name [] i e k less = cc
before-shown name (entry ∷ es) i e k less =
    let found = position-Some (λ k. bytes_eq name (string_bytes k)) (map (λ e. e.0) (entry ∷ es)) i entry.0 e in
    let within : i < length (entry ∷ es) = subst (λ n. i < n) (length-map (entry ∷ es) (λ e. e.0)) found.0 in
    ap (bytes_eq name) (key-shown (entry ∷ es) k entry.0 (omega arith)) ∙ found.2 k less
  where
    key-shown : (es : List (String Global × NameDetails)) (k : ℕ) (d : String Global) → k < length es →
        slice_index_or (keys (map named_shown es)) k [] ≡ string_bytes (slice_index_or (map (λ e. e.0) es) k d)
    key-shown [] k d h = absurd (omega arith)
    key-shown (e ∷ es) zero d h = refl
    key-shown (e ∷ es) (suc k) d h = key-shown es k d (omega arith)

-- a name that isn't known is none of them
pub none-before : (name : List ℕ) (known : List (List ℕ)) → list_any (bytes_eq name) known ≡ false → (k : ℕ) →
    k < length known → bytes_eq name (slice_index_or known k []) ≡ false
none-before name [] e k less = absurd (omega arith)
none-before name (key ∷ known) e zero less = (or_parts (bytes_eq name key) (list_any (bytes_eq name) known) e).0
none-before name (key ∷ known) e (suc k) less =
    none-before name known (or_parts (bytes_eq name key) (list_any (bytes_eq name) known) e).1 k (omega arith)
