-- The table's entries and glyphs are those of what is declared.
use Rattle.std.proofs.Common.{◌≡◌, ℕ, suc, ◌+◌, List, [], ◌∷◌, ◌++◌, map, length, Option, None, Some, refl, ap, sym}
use Rattle.std.proofs.Common.{◌∙◌, arith}
use Rattle.std.specs.Prelude.{option_and_then, slice_index_or}
use Rattle.std.specs.List.{enumerate_from, filter_map, cons_option, zip}
use Rattle.std.proofs.lemmas.List.{map-append}
use Rattle.std.proofs.lemmas.List.Elements.{filter_map-append}
use Rattle.ps_model.specs.declared.pieces.ObjectId.{ObjectId}
use Rattle.ps_model.specs.names.Names.{Meaning, One}
use Rattle.ps_model.specs.text.WrittenLines.{WrittenLine}
use Rattle.ps_model.specs.text.Lines.{folded}
use Rattle.ps_model.specs.names.ObjectLines.{ObjectText, object_names, one_character}
use Rattle.ps_model.specs.names.LegendLines.{Declaration, declarations}
use Rattle.ps_model.specs.names.Meanings.{LegendName, Mention, OfObject, OfLine, legend_name, known_names}
use Rattle.ps_model.specs.names.NamesRead.{Declared, object_declared, legend_declared, all_declared, entry_of}
use Rattle.ps_model.specs.names.NamesRead.{entries_of, glyph_of}
use Rattle.ps_names.specs.Known.{Named, named_object}
use Rattle.ps_names.specs.LegendShown.{named_line}
use Rattle.ps_names.specs.Tables.{with_meaning, with_meanings, entry_with, entries_with, glyph_named}
use Rattle.ps_names.specs.Sections.{known_of, legend_of}

-- what a name of the table gives, where it stands for something
module _ {A : Type 0} (gives : Declared → Option A) (shows : Named × Option Meaning → Option A)
    (agree : (mention : Mention) (name : List ℕ) (meaning : Option Meaning)
    → shows (record { name = folded name; character = one_character name; mention = mention }, meaning) ≡
    option_and_then (λ m. gives (record { name = name; meaning = m })) meaning) where
  of_objects : (meanings : List (Option Meaning)) (names : List (List ℕ × ObjectId))
      → filter_map shows (with_meanings meanings (map named_object names)) ≡ filter_map gives
      (map object_declared names)
  of_objects meanings [] = refl
  of_objects meanings (name ∷ names) = rw (agree (OfObject name.1) name.0 (Some (One name.1)))
      (ap (cons_option (gives (object_declared name))) (of_objects meanings names))

  one_line : (declared : LegendName) (meaning : Option Meaning) (rest more : List A) (others : List Declared) →
      rest ≡ more → more ≡ filter_map gives others
      → cons_option (option_and_then (λ m. gives (record { name = declared.name; meaning = m })) meaning) rest ≡
      filter_map gives (cons_option (legend_declared (declared, meaning)) others)
  one_line declared None rest more others e f = e ∙ f
  one_line declared (Some meaning) rest more others e f =
      ap (cons_option (gives (record { name = declared.name; meaning = meaning }))) (e ∙ f)

  of_lines : (known : List (List ℕ × Mention)) (whole here : List (Option Meaning)) (k : ℕ)
      (declared : List Declaration) → length here ≡ length declared
      → ((i : ℕ) → slice_index_or whole (k + i) None ≡ slice_index_or here i None)
      → filter_map shows (with_meanings whole (map named_line (enumerate_from k declared))) ≡ filter_map gives
      (filter_map legend_declared (zip (map (legend_name known) declared) here))
  of_lines known whole here k [] long h = refl
  of_lines known whole [] k (d ∷ declared) long h = absurd (omega arith)
  of_lines known whole (meaning ∷ here) k (d ∷ declared) long h =
      let at : slice_index_or whole k None ≡ meaning =
      (let e : k ≡ k + 0 = omega arith in ap (λ n. slice_index_or whole n None) e) ∙ h 0 in
      rw (at, agree (OfLine k) d.name meaning) (
      one_line (legend_name known d) meaning _ _
      (filter_map legend_declared (zip (map (legend_name known) declared) here))
      (of_lines known whole here (k + 1) declared (omega arith) (λ i.
      (let e : k + 1 + i ≡ k + suc i = omega arith in ap (λ n. slice_index_or whole n None) e) ∙ h (suc i))) refl
      )

  -- what all names of the table give
  pub table-gives : (objects : List ObjectText) (lines : List WrittenLine) (meanings : List (Option Meaning)) →
      length meanings ≡ length (declarations lines)
      → filter_map shows (with_meanings meanings (known_of objects lines)) ≡ filter_map gives
      (all_declared objects (legend_of objects lines) meanings)
  table-gives objects lines meanings long =
      let front : List Named = map named_object (object_names objects) in
      let back : List Named = map named_line (enumerate_from 0 (declarations lines)) in
      ap (filter_map shows) (map-append (with_meaning meanings) front back)
      ∙ filter_map-append shows (with_meanings meanings front) (with_meanings meanings back)
      ∙ ap (λ xs. xs ++ filter_map shows (with_meanings meanings back)) (of_objects meanings (object_names objects))
      ∙ ap (λ xs. filter_map gives (map object_declared (object_names objects)) ++ xs)
      (of_lines (known_names (object_names objects) (declarations lines)) meanings meanings 0 (declarations lines) long
      (λ i. let e : 0 + i ≡ i = omega arith in ap (λ n. slice_index_or meanings n None) e))
      ∙ sym (filter_map-append gives (map object_declared (object_names objects))
      (filter_map legend_declared (zip (legend_of objects lines) meanings)))

some-each : {A B : Type 0} (f : A → B) (xs : List A) → filter_map (λ x. Some (f x)) xs ≡ map f xs
some-each f [] = refl
some-each f (x ∷ xs) = ap (λ r. f x ∷ r) (some-each f xs)

entry-agrees : (name : List ℕ) (character : Option ℕ) (mention : Mention) (meaning : Option Meaning)
    → entry_with (record { name = folded name; character = character; mention = mention }, meaning) ≡ option_and_then
    (λ m. Some (entry_of (record { name = name; meaning = m }))) meaning
entry-agrees name character mention None = refl
entry-agrees name character mention (Some meaning) = refl

-- the entries
pub entries-shown : (objects : List ObjectText) (lines : List WrittenLine) (meanings : List (Option Meaning)) →
    length meanings ≡ length (declarations lines)
    → entries_with (with_meanings meanings (known_of objects lines)) ≡ entries_of
    (all_declared objects (legend_of objects lines) meanings)
entries-shown objects lines meanings long =
    table-gives (λ declared. Some (entry_of declared)) entry_with (λ mention name meaning.
    entry-agrees name (one_character name) mention meaning) objects lines meanings long
    ∙ some-each entry_of (all_declared objects (legend_of objects lines) meanings)

-- the glyphs
pub glyphs-named : (objects : List ObjectText) (lines : List WrittenLine) (meanings : List (Option Meaning)) →
    length meanings ≡ length (declarations lines)
    → filter_map glyph_named (with_meanings meanings (known_of objects lines)) ≡ filter_map glyph_of
    (all_declared objects (legend_of objects lines) meanings)
glyphs-named objects lines meanings long = table-gives glyph_of glyph_named (λ mention name meaning.
    refl) objects lines meanings long
