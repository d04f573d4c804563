-- The names that are known are those of the definitions.
use Rattle.std.proofs.Common.{◌≡◌, ℕ, ◌+◌, List, [], ◌∷◌, ◌++◌, map, refl, ap, ◌∙◌}
use Rattle.std.specs.List.{enumerate_from, flat_map}
use Rattle.std.specs.Option.{option_or}
use Rattle.std.proofs.lemmas.List.{map-append}
use Rattle.ps_model.specs.declared.faults.Fault.{Fault}
use Rattle.ps_model.specs.declared.pieces.ObjectId.{ObjectId}
use Rattle.ps_model.specs.text.Faults.{first_fault}
use Rattle.ps_model.specs.text.Lines.{folded}
use Rattle.ps_model.specs.text.WrittenLines.{WrittenLine}
use Rattle.ps_model.specs.names.ObjectLines.{ObjectText, object_names, names_of_object, name_of}
use Rattle.ps_model.specs.names.LegendLines.{Declaration, declarations}
use Rattle.ps_model.specs.names.Meanings.{known_names, object_mention, line_mention}
use Rattle.ps_model.specs.names.NameFaults.{folded_names}
use Rattle.ps_names.specs.Known.{keys, mention_of, mentions_of_names, named_object}
use Rattle.ps_names.specs.LegendShown.{named_line}
use Rattle.ps_names.specs.Sections.{known_of}

keys-words : (object : ObjectId) (words : List (List ℕ)) →
    keys (map named_object (map (name_of object) words)) ≡ map folded words
keys-words object [] = refl
keys-words object (word ∷ words) = ap (λ r. folded word ∷ r) (keys-words object words)

keys-from : (number : ℕ) (objects : List ObjectText) →
    keys (map named_object (flat_map names_of_object (enumerate_from number objects))) ≡ folded_names objects
keys-from number [] = refl
keys-from number (object ∷ objects) =
    rw (map-append, map-append) (ap (λ front. front ++ keys
    (map named_object (flat_map names_of_object (enumerate_from (number + 1) objects))))
    (keys-words (record { 0 = number }) object.words)
    ∙ ap (λ rest. map folded object.words ++ rest) (keys-from (number + 1) objects))

-- the names of the objects, letters folded
pub keys-objects : (objects : List ObjectText) → keys (map named_object (object_names objects)) ≡ folded_names objects
keys-objects objects = keys-from 0 objects

mentions-objects : (names : List (List ℕ × ObjectId)) →
    mentions_of_names (map named_object names) ≡ map object_mention names
mentions-objects [] = refl
mentions-objects (name ∷ names) = ap (λ r. object_mention name ∷ r) (mentions-objects names)

mentions-lines : (numbered : List (ℕ × Declaration)) →
    mentions_of_names (map named_line numbered) ≡ map line_mention numbered
mentions-lines [] = refl
mentions-lines (each ∷ numbered) = ap (λ r. line_mention each ∷ r) (mentions-lines numbered)

-- whose the names are
pub mentions-known : (objects : List ObjectText) (lines : List WrittenLine) →
    mentions_of_names (known_of objects lines) ≡ known_names (object_names objects) (declarations lines)
mentions-known objects lines =
    map-append mention_of (map named_object (object_names objects))
    (map named_line (enumerate_from 0 (declarations lines)))
    ∙ ap (λ front. front ++ mentions_of_names (map named_line (enumerate_from 0 (declarations lines))))
    (mentions-objects (object_names objects))
    ∙ ap (λ rest. map object_mention (object_names objects) ++ rest)
    (mentions-lines (enumerate_from 0 (declarations lines)))

-- the first fault of two lists
pub first-or : (a b : List Fault) → first_fault (a ++ b) ≡ option_or (first_fault a) (first_fault b)
first-or [] b = refl
first-or (fault ∷ a) b = refl

-- the first fault of five lists
pub first-of-five : (a b c d e : List Fault)
    → option_or (first_fault a) (option_or (first_fault b)
    (option_or (first_fault c) (option_or (first_fault d) (first_fault e)))) ≡ first_fault
    (a ++ (b ++ (c ++ (d ++ e))))
first-of-five (x ∷ a) b c d e = refl
first-of-five [] (x ∷ b) c d e = refl
first-of-five [] [] (x ∷ c) d e = refl
first-of-five [] [] [] (x ∷ d) e = refl
first-of-five [] [] [] [] e = refl
