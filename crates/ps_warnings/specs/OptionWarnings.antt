-- Lines of the prelude that say nothing, as their first word is misspelt.
use Rattle.std.specs.Prelude.{ℕ, Option, Some, None, List, [], ◌∷◌}
use Rattle.std.specs.List.{flat_map}
use Rattle.ps_model.specs.text.Lines.{Line, first_word}
use Rattle.ps_warnings.specs.declared.kinds.PreludeWord.{PreludeWord}
use Rattle.ps_warnings.specs.declared.kinds.Warning.{Warning}
use Rattle.ps_warnings.specs.declared.kinds.WarningKind.TheVariants.{NearWord}
use Rattle.ps_warnings.specs.PreludeWords.{misspelt}

-- a line that is surely meant to begin with this word, if there is one
abbrev pub warnings_of_word : ℕ → Option PreludeWord → List Warning
warnings_of_word line None = []
warnings_of_word line (Some word) = record { line = line; kind = NearWord word } ∷ []

-- a line of the prelude
abbrev pub warnings_of_option : Line → List Warning
warnings_of_option line = warnings_of_word line.number (misspelt (first_word line))

-- all of them
abbrev pub option_warnings : List Line → List Warning
option_warnings prelude = flat_map warnings_of_option prelude
