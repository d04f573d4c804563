-- What it is that names without faults have: each kind of fault by itself is missing.
use Rattle.std.proofs.Common.{◌≡◌, ℕ, Option, Some, None, List, [], ◌∷◌, ◌++◌, sym}
use mathlib.Core.Path.{subst}
use Rattle.ps_model.specs.declared.texts.Section.TheVariants.{Objects, Legend, Layers}
use Rattle.ps_model.specs.declared.faults.Fault.{Fault}
use Rattle.ps_model.specs.text.TextFaults.{text_fault}
use Rattle.ps_model.specs.text.Lines.{Line, lines_of}
use Rattle.ps_model.specs.text.Sections.{section_lines, header_number, heading_faults}
use Rattle.ps_model.specs.names.Names.{Names}
use Rattle.ps_model.specs.names.NamesRead.{NameSections, names_read}
use Rattle.ps_model.specs.names.DeclarationFaults.{object_faults, form_faults, naming_faults, layer_faults}
use Rattle.ps_model.specs.names.NameFaults.{folded_names, no_layer_faults, missing_faults, whole_faults}
use Rattle.ps_model.specs.names.NameFaults.{faults_of_sections, name_faults}
use Rattle.ps_model.specs.game.Games.{Game, game_read, line_faults, game}
use Rattle.ps_laws.proofs.texts.OneGame.{game_is_faultless}
use Rattle.ps_laws.proofs.common.Lists.{none-before, none-behind}

-- sections of names without faults of these kinds
pub record IsFaultless (header : ℕ) (sections : NameSections) : Type 0 where
  pub objects : object_faults 0 [] sections.objects ≡ []
  pub naming : naming_faults sections.legend sections.meanings ≡ []
  pub layers : layer_faults sections.layers ≡ []
  pub placed : no_layer_faults sections ≡ []
  pub there : missing_faults header sections ≡ []

pub faultless_sections : (header : ℕ) (sections : NameSections) → faults_of_sections header sections ≡ [] →
    IsFaultless header sections
faultless_sections header sections e =
    let objects : List Fault = object_faults 0 [] sections.objects in
    let forms : List Fault = form_faults (folded_names sections.objects) sections.legend_lines in
    let naming : List Fault = naming_faults sections.legend sections.meanings in
    let layers : List Fault = layer_faults sections.layers in
    let whole : List Fault = whole_faults header sections in
    let behind_objects : forms ++ (naming ++ (layers ++ whole)) ≡ [] =
    none-behind objects (forms ++ (naming ++ (layers ++ whole))) e in
    let behind_forms : naming ++ (layers ++ whole) ≡ [] =
    none-behind forms (naming ++ (layers ++ whole)) behind_objects in
    let behind_naming : layers ++ whole ≡ [] = none-behind naming (layers ++ whole) behind_forms in
    let behind_layers : whole ≡ [] = none-behind layers whole behind_naming in
    record {
      objects = none-before objects (forms ++ (naming ++ (layers ++ whole))) e;
      naming = none-before naming (layers ++ whole) behind_forms;
      layers = none-before layers whole behind_naming;
      placed = none-before (no_layer_faults sections) _ behind_layers;
      there = none-before (missing_faults header sections) _ (none-behind (no_layer_faults sections) _ behind_layers);
    }

-- the names of a text's lines without faults have none
names_faultless : (lines : List Line) → line_faults lines ≡ [] →
    name_faults (header_number lines Objects) (section_lines lines Objects) (section_lines lines Legend)
    (section_lines lines Layers) ≡ []
names_faultless lines e =
    none-before (name_faults (header_number lines Objects) (section_lines lines Objects) (section_lines lines Legend)
    (section_lines lines Layers)) _ (none-behind (heading_faults lines) _ e)

-- that fault of a text alone, or those of its lines
abbrev alone_or : Option Fault → List Fault → List Fault
alone_or fault others = elim fault [ Some fault ↦ fault ∷ [] | None ↦ others ]

lines_faultless : (fault : Option Fault) (lines : List Line) → alone_or fault (line_faults lines) ≡ [] →
    line_faults lines ≡ []
lines_faultless (Some fault) lines e = cc
lines_faultless None lines e = e

-- what is read of all lines without faults, every game of a text has
pub of_every_faultless : (P : Game → Type 0) → ((lines : List Line) → line_faults lines ≡ [] → P (game_read lines)) →
    (text : List ℕ) (read : Game) → game text ≡ Some read → P read
of_every_faultless P h text read e =
    let found = game_is_faultless text read e in
    subst P (sym found.1) (h (lines_of text) (lines_faultless (text_fault text) (lines_of text) found.0))

-- what is read of all lines whose names have no fault, every game of a text has
pub of_every_game : (P : Game → Type 0) →
    ((lines : List Line) → name_faults (header_number lines Objects) (section_lines lines Objects)
    (section_lines lines Legend) (section_lines lines Layers) ≡ [] → P (game_read lines)) →
    (text : List ℕ) (read : Game) → game text ≡ Some read → P read
of_every_game P h text read e = of_every_faultless P (λ lines none. h lines (names_faultless lines none)) text read e

-- what is read of names without faults, the names of every game of a text have
pub names_of_every_game : (P : Names → Type 0) →
    ((header : ℕ) (object_lines legend_lines layer_lines : List Line) →
    name_faults header object_lines legend_lines layer_lines ≡ [] →
    P (names_read object_lines legend_lines layer_lines)) →
    (text : List ℕ) (read : Game) → game text ≡ Some read → P read.names
names_of_every_game P h text read e =
    of_every_game (λ (made : Game). P made.names)
    (λ lines none. h (header_number lines Objects) (section_lines lines Objects) (section_lines lines Legend)
    (section_lines lines Layers) none) text read e
