-- The names and the faults of sections, put together from their parts.
use Rattle.std.proofs.Common.{suc, ◌+◌, ◌∷◌, filter_map, ◌≡◌, ℕ, List, [], ◌++◌, length, refl, sym, ap, ◌∙◌, Option}
use Rattle.std.proofs.Common.{append_assoc}
use Rattle.std.specs.List.{enumerate_from}
use Rattle.std.proofs.lemmas.List.{length-map}
use Rattle.ps_model.specs.declared.faults.Fault.{Fault}
use Rattle.ps_model.specs.names.Names.{Meaning, Names}
use Rattle.ps_model.specs.text.WrittenLines.{WrittenLine}
use Rattle.ps_model.specs.names.ObjectLines.{ObjectText, object_names}
use Rattle.ps_model.specs.names.LegendLines.{declarations}
use Rattle.ps_model.specs.names.Meanings.{LegendName, OfLine, legend_meanings, legend_name, known_names, meaning_behind}
use Rattle.ps_model.specs.names.LayerLines.{Layer, layers_of_lines, layers_found}
use Rattle.ps_model.specs.names.DeclarationFaults.{object_faults, form_faults, layer_faults}
use Rattle.ps_model.specs.names.NamesRead.{sections_of, names_of, layer_numbers, entries_of, glyph_of}
use Rattle.ps_model.specs.names.NameFaults.{folded_names, faults_of_sections}
use Rattle.ps_names.specs.Known.{Named}
use Rattle.ps_names.specs.Tables.{entries_with, with_meanings, glyph_named}
use Rattle.ps_names.specs.Sections.{known_of, legend_of, legend_with, legend_faults, declaring_faults, faults_of_whole}
use Rattle.ps_names.specs.Parts.{layers_over, names_over, faults_over}
use Rattle.ps_names.specs.Wholes.{no_layers}
use Rattle.ps_laws.proofs.common.Lists.{none-before, none-behind}
use Rattle.ps_names.proofs.tables.TableLaw.{entries-shown, glyphs-named}

length-from : {A : Type 0} (number : ℕ) (xs : List A) → length (enumerate_from number xs) ≡ length xs
length-from number [] = refl
length-from number (x ∷ xs) = ap suc (length-from (number + 1) xs)

-- each name of the legend has its meaning, if any
pub length-meanings : (legend : List LegendName) → length (legend_meanings legend) ≡ length legend
length-meanings legend = length-map (enumerate_from 0 legend) (λ numbered.
    meaning_behind legend (length legend) (OfLine numbered.0)) ∙ length-from 0 legend

module _ (objects : List ObjectText) (lines layer_lines : List WrittenLine) where
  abbrev pub meanings_here : List (Option Meaning)
  meanings_here = legend_meanings (legend_of objects lines)

  abbrev pub table_here : List (Named × Option Meaning)
  table_here = with_meanings meanings_here (known_of objects lines)

  abbrev pub layers_here : List Layer
  layers_here = layers_of_lines (entries_with table_here) layer_lines

  long : length meanings_here ≡ length (declarations lines)
  long = length-meanings (legend_of objects lines)
      ∙ length-map (declarations lines) (legend_name (known_names (object_names objects) (declarations lines)))

  pub entries-here : entries_with table_here ≡ entries_of (sections_of objects lines layer_lines).declared
  entries-here = entries-shown objects lines meanings_here long

  pub layers-same : layers_here ≡ (sections_of objects lines layer_lines).layers
  layers-same = ap (λ entries. layers_of_lines entries layer_lines) entries-here

  pub glyphs-here : filter_map glyph_named table_here ≡ filter_map glyph_of
      (sections_of objects lines layer_lines).declared
  glyphs-here = glyphs-named objects lines meanings_here long

  -- the faults of OBJECTS and LEGEND in front of others
  declaring-front : (others : List Fault) → declaring_faults objects lines ++ others
      ≡ object_faults 0 [] objects ++ (form_faults (folded_names objects) lines ++
      (legend_faults (legend_of objects lines) ++ others))
  declaring-front others =
      append_assoc (object_faults 0 [] objects)
      (form_faults (folded_names objects) lines ++ legend_faults (legend_of objects lines)) others
      ∙ ap (λ (faults : List Fault). object_faults 0 [] objects ++ faults)
      (append_assoc (form_faults (folded_names objects) lines) (legend_faults (legend_of objects lines)) others)

  -- the faults, by the parts that the code keeps
  pub faults-here : (header : ℕ) → declaring_faults objects lines ++
      (layer_faults layers_here ++ faults_of_whole header objects (layers_found (length objects) layers_here)
      (legend_of objects lines) meanings_here
      (entries_with table_here) (layer_numbers (layers_found (length objects) layers_here))) ≡ faults_of_sections
      header (sections_of objects lines layer_lines)
  faults-here header = by _ _ (sym entries-here) ∙ declaring-front _
    where
      by : (told entries : List (List ℕ × Meaning)) → told ≡ entries
          → declaring_faults objects lines ++ (layer_faults (layers_of_lines entries layer_lines) ++ faults_of_whole
          header objects (layers_found (length objects) (layers_of_lines entries layer_lines))
          (legend_of objects lines)
          meanings_here entries (layer_numbers (layers_found (length objects) (layers_of_lines entries layer_lines))))
          ≡ declaring_faults objects lines ++ (layer_faults (layers_of_lines told layer_lines) ++ faults_of_whole
          header objects (layers_found (length objects) (layers_of_lines told layer_lines))
          (legend_of objects lines)
          meanings_here told (layer_numbers (layers_found (length objects) (layers_of_lines told layer_lines))))
      by told entries e = rw e refl

  -- the names, by the parts that the code keeps
  pub names-here : (record {
    entries = entries_with table_here;
    layers =
        layer_numbers (layers_found (length objects) layers_here);
    layer_count = length layers_here;
    glyphs =
        filter_map glyph_named table_here;
  })
      ≡ names_of (sections_of objects lines layer_lines)
  names-here = rw (glyphs-here) (by _ _ entries-here)
    where
      by : (told entries : List (List ℕ × Meaning)) → told ≡ entries → (let names : Names = record {
        entries = told;
        layers = layer_numbers (layers_found (length objects) (layers_of_lines told layer_lines));
        layer_count = length (layers_of_lines told layer_lines);
        glyphs = filter_map glyph_of (sections_of objects lines layer_lines).declared;
      } in names)
          ≡ record {
            entries = entries;
            layers = layer_numbers (layers_found (length objects) (layers_of_lines entries layer_lines));
            layer_count = length (layers_of_lines entries layer_lines);
            glyphs = filter_map glyph_of (sections_of objects lines layer_lines).declared;
          }
      by told entries e = rw e refl

  -- the table, by what the code has
  pub table-made : (known : List Named) (meanings : List (Option Meaning)) (table : List (Named × Option Meaning)) →
      table ≡ with_meanings meanings known → known ≡ known_of objects lines → meanings ≡ meanings_here →
      table ≡ table_here
  table-made known meanings table t k m = t ∙ ap (λ (ms : List (Option Meaning)). with_meanings ms known) m
      ∙ ap (with_meanings meanings_here) k

  -- the faults after those of OBJECTS and LEGEND, by what the code has
  pub faults-made : (header : ℕ) (table : List (Named × Option Meaning))
      (legend : List LegendName × List (Option Meaning)) → table ≡ table_here →
      legend ≡ legend_with (legend_of objects lines) → declaring_faults objects lines ≡ [] →
      faults_of_sections header (sections_of objects lines layer_lines)
      ≡ faults_over header table objects legend layer_lines
  faults-made header table legend t g none = sym (faults-here header)
      ∙ ap (λ (before : List Fault). before ++ faults_over header table_here objects
      (legend_with (legend_of objects lines)) layer_lines) none
      ∙ sym (ap (λ (l : List LegendName × List (Option Meaning)). faults_over header table objects l layer_lines) g
      ∙ ap (λ (all : List (Named × Option Meaning)). faults_over header all objects
      (legend_with (legend_of objects lines)) layer_lines) t)

  -- the names, by what the code has
  pub names-made : (names : Names) (table : List (Named × Option Meaning)) → table ≡ table_here →
      names ≡ names_over table objects layer_lines → names ≡ names_of (sections_of objects lines layer_lines)
  names-made names table t e = e ∙ ap (λ (all : List (Named × Option Meaning)). names_over all objects layer_lines) t
      ∙ names-here

  -- where the whole has no fault, each object lies on a layer
  pub all-on-layers : (header : ℕ) (table : List (Named × Option Meaning))
      (legend : List LegendName × List (Option Meaning)) → table ≡ table_here →
      faults_over header table objects legend layer_lines ≡ [] →
      no_layers objects (sections_of objects lines layer_lines).object_layers ≡ []
  all-on-layers header table legend t none =
      ap (λ (layers : List Layer). no_layers objects (layers_found (length objects) layers)) (sym layers-same)
      ∙ ap (λ (all : List (Named × Option Meaning)). no_layers objects
      (layers_found (length objects) (layers_over all layer_lines))) (sym t)
      ∙ none-before (no_layers objects (layers_found (length objects) (layers_over table layer_lines))) _
      (none-behind (layer_faults (layers_over table layer_lines)) _ none)
