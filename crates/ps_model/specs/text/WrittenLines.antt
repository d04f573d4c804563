-- The lines of LEGEND and COLLISIONLAYERS by their words. Blank lines are read past.
use Rattle.std.specs.Prelude.{ℕ, not, List, map, filter}
use Rattle.ps_model.specs.declared.texts.Cut.{Cut}
use Rattle.ps_model.specs.text.Words.{word_texts}
use Rattle.ps_model.specs.text.Lines.{Line, is_blank_line}

-- a line that isn't blank: its number, and its words as they are written
pub record WrittenLine : Type 0 where
  pub number : ℕ
  pub words : List (List ℕ)

-- the lines that aren't blank
abbrev pub written_lines : Cut → List Line → List WrittenLine
written_lines cut lines = map (λ line. record { number = line.number; words = word_texts cut line.bytes })
    (filter (λ line. not (is_blank_line line)) lines)
