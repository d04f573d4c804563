-- Lines of RULES that ask for a sound, by the words `sfx0` to `sfx10`.
use Rattle.std.specs.Prelude.{ℕ, Bool, List, [], ◌∷◌, codes}
use Rattle.std.specs.List.{flat_map, list_any}
use Rattle.std.specs.Str.{bytes_eq}
use Rattle.ps_model.specs.declared.texts.Cut.TheVariants.{Rule}
use Rattle.ps_model.specs.text.Lines.{Line, folded}
use Rattle.ps_text.specs.WordViews.{texts_under}
use Rattle.ps_warnings.specs.Numbers.{number_if}

-- two words are one, letters folded
abbrev pub is_same : List ℕ → List ℕ → Bool
is_same word other = bytes_eq (folded word) (folded other)

-- the word asks for a sound
abbrev pub is_sound : List ℕ → Bool
is_sound word =
    list_any (is_same word) (codes "sfx0" ∷ codes "sfx1" ∷ codes "sfx2" ∷ codes "sfx3" ∷ codes "sfx4"
    ∷ codes "sfx5" ∷ codes "sfx6" ∷ codes "sfx7" ∷ codes "sfx8" ∷ codes "sfx9" ∷ codes "sfx10" ∷ [])

-- a word of the line does
abbrev pub has_sound : Line → Bool
has_sound line = list_any is_sound (texts_under Rule line.bytes)

-- the number of the line, if it asks for a sound
abbrev pub sounding_line : Line → List ℕ
sounding_line line = number_if (has_sound line) line.number

-- those of all lines that do
abbrev pub sounding_lines : List Line → List ℕ
sounding_lines lines = flat_map sounding_line lines
