-- The lines of OBJECTS below a line, and those among them that are no row of a sprite.
use Rattle.std.specs.Prelude.{◌≡◌, ◌+◌, ℕ, false, true, List}
use Rattle.ps_model.specs.declared.texts.Section.TheVariants.{Objects}
use Rattle.ps_model.specs.names.ObjectLines.{is_sprite_row}
use Rattle.ps_model.specs.text.LineNumbers.{line_at, HasLine}
use Rattle.ps_model.specs.text.Lines.{Line}
use Rattle.ps_facts.specs.NamesShown.{is_own, own_lines_from}

-- a line of OBJECTS that is no row of a sprite
pub record IsOtherLine (text : List ℕ) (line : ℕ) : Type 0 where
  pub there : HasLine text line
  pub own : is_own Objects (line_at text line) ≡ true
  pub no_row : is_sprite_row (line_at text line) ≡ false

-- the lines of OBJECTS below a line
abbrev pub lines_under : List ℕ → ℕ → List Line
lines_under text line = own_lines_from text Objects (line + 1)
