-- The words of a line, as the lines of its section are cut.
use Rattle.std.specs.Prelude.{ℕ, List, map}
use Rattle.std.specs.List.{IsAmong}
use Rattle.ps_model.specs.declared.texts.Cut.{Cut}
use Rattle.ps_model.specs.declared.texts.Cut.TheVariants as cuts
use Rattle.ps_model.specs.declared.texts.Section.{Section}
use Rattle.ps_model.specs.declared.texts.Section.TheVariants.{Prelude, Objects, Legend, Sounds, Layers, Rules, Wins}
use Rattle.ps_model.specs.declared.texts.Section.TheVariants.{Levels}
use Rattle.ps_model.specs.text.LineNumbers.{line_at}
use Rattle.ps_model.specs.text.RuleWords.{words_under}
use Rattle.ps_text.specs.WordViews.{IsSliceOf, span_at, texts_under}
use Rattle.ps_text.specs.declared.cutting.Word.{Word}

-- how the lines of a section are cut into words
abbrev pub cut_of : Section → Cut
cut_of Prelude = cuts.Blanks
cut_of Objects = cuts.Blanks
cut_of Legend = cuts.Legend
cut_of Sounds = cuts.Blanks
cut_of Layers = cuts.Layers
cut_of Rules = cuts.Rule
cut_of Wins = cuts.Blanks
cut_of Levels = cuts.Blanks

-- the words of a line, by their bytes
unfoldable pub texts_of : List ℕ → ℕ → List (List ℕ)
texts_of text line = texts_under (cut_of (line_at text line).section) (line_at text line).bytes

-- the word is one of the line, where its line and its bytes say
pub record IsWordOf (text : List ℕ) (line : ℕ) (word : Word) : Type 0 where
  pub span : IsAmong (map (span_at (line_at text line))
      (words_under (cut_of (line_at text line).section) (line_at text line).bytes)) word.span
  pub bytes : IsSliceOf text word
