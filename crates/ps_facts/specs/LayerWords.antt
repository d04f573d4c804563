-- The words of COLLISIONLAYERS, and which of its lines is which layer.
use Rattle.std.specs.Prelude.{◌≡◌, ℕ, Bool, true, ◌&&◌, not, Some, List, filter, slice_get}
use Rattle.std.specs.List.{list_any}
use Rattle.ps_model.specs.declared.texts.Cut.TheVariants as cuts
use Rattle.ps_model.specs.declared.texts.Section.TheVariants.{Layers}
use Rattle.ps_model.specs.text.LineNumbers.{line_at, HasLine}
use Rattle.ps_model.specs.text.Lines.{Line, lines_of, is_blank_line}
use Rattle.ps_model.specs.text.Sections.{section_lines}
use Rattle.ps_model.specs.text.Words.{word_texts}
use Rattle.ps_facts.specs.NamesShown.{is_own, own_line}
use Rattle.ps_facts.specs.Signs.{is_any}

-- a line of COLLISIONLAYERS has the word, its letters in either case
abbrev pub has_word : List ℕ → Line → Bool
has_word name line = is_any (word_texts cuts.Layers line.bytes) name

-- some line of COLLISIONLAYERS has it
unfoldable pub is_in_layers : List ℕ → List ℕ → Bool
is_in_layers text name = list_any (has_word name) (section_lines (lines_of text) Layers)

-- a line is one of COLLISIONLAYERS, and has it
pub record IsInLayer (text name : List ℕ) (line : ℕ) : Type 0 where
  pub there : HasLine text line
  pub has : list_any (has_word name) (own_line Layers (line_at text line)) ≡ true

-- a line is a layer: one of COLLISIONLAYERS that isn't blank
abbrev pub is_layer : Line → Bool
is_layer line = is_own Layers line && not (is_blank_line line)

-- the layers
abbrev pub layer_lines : List Line → List Line
layer_lines lines = filter is_layer lines

-- a line is the layer of that number, from 0
pub record IsLayerLine (text : List ℕ) (layer line : ℕ) : Type 0 where
  pub there : HasLine text line
  pub place : slice_get (layer_lines (lines_of text)) layer ≡ Some (line_at text line)
