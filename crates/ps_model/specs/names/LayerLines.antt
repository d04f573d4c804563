-- The lines of COLLISIONLAYERS. Each line is a layer; earlier lines lie below later ones. Commas and blanks part its
-- names: a property stands for its members, a synonym for its object. An object that several lines name belongs to the
-- last of them.
use Rattle.std.specs.Prelude.{ℕ, Option, None, List, map, flat_map, filter}
use Rattle.std.specs.List.{enumerate_from, range_with_len, last_or}
use Rattle.std.specs.Str.{bytes_eq}
use Rattle.std.specs.Map.{lookup}
use Rattle.ps_model.specs.declared.pieces.ObjectId.{ObjectId}
use Rattle.ps_model.specs.text.Lines.{folded}
use Rattle.ps_model.specs.text.WrittenLines.{WrittenLine}
use Rattle.ps_model.specs.names.Names.{Meaning, is_among, members_if}

-- a layer: the number of its line, and what each name there stands for, if it is declared
pub record Layer : Type 0 where
  pub line : ℕ
  pub named : List (Option Meaning)

-- the layers of the lines, over the names that are declared
abbrev pub layers_of_lines : List (List ℕ × Meaning) → List WrittenLine → List Layer
layers_of_lines entries lines = map (λ line. record {
  line = line.number;
  named =
      map (λ word. lookup (bytes_eq (folded word)) entries) line.words;
}) lines

-- the objects that a layer names, themselves or by a property
abbrev pub objects_of_layer : Layer → List ObjectId
objects_of_layer layer = flat_map members_if layer.named

-- the numbers of the lists that have an object, lists numbered from 0
abbrev pub places_among : List (List ObjectId) → ObjectId → List ℕ
places_among lists object = map (λ numbered. numbered.0)
    (filter (λ numbered. is_among numbered.1 object) (enumerate_from 0 lists))

-- the layer of an object, if one names it: the last that does
abbrev pub last_among : List (List ObjectId) → ObjectId → Option ℕ
last_among lists object = last_or None (places_among lists object)

-- the layer of each of `count` objects, if a layer names it
abbrev pub layers_found : ℕ → List Layer → List (Option ℕ)
layers_found count layers = let lists : List (List ObjectId) = map objects_of_layer layers in
    map (λ number. last_among lists (record { 0 = number })) (range_with_len 0 count)
