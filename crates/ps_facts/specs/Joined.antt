-- Lines of LEGEND that make a name of others.
use Rattle.std.specs.Prelude.{◌≡◌, ℕ, true, List}
use Rattle.ps_model.specs.declared.texts.Section.TheVariants.{Legend}
use Rattle.ps_model.specs.text.LineNumbers.{line_at, HasLine}
use Rattle.ps_facts.specs.declared.signs.Sign.{Sign}
use Rattle.ps_facts.specs.LineWords.{texts_of}
use Rattle.ps_facts.specs.NamesShown.{is_own}
use Rattle.ps_facts.specs.Signs.{has_sign}

-- a line of LEGEND has that sign
pub record IsJoinedAt (text : List ℕ) (line : ℕ) (sign : Sign) : Type 0 where
  pub there : HasLine text line
  pub own : is_own Legend (line_at text line) ≡ true
  pub joins : has_sign sign (texts_of text line) ≡ true
