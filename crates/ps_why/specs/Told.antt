-- What is said about a fault: the line that has it, and why it has it.
use Rattle.std.specs.Prelude.{◌≡◌, ℕ, nat_lt, if◌then◌else◌, List, [], length}
use Rattle.ps_model.specs.declared.limits.TheConstants.{TEXT_LIMIT}
use Rattle.ps_causes.specs.declared.causes.Cause.{Cause}
use Rattle.ps_causes.specs.Causes.{IsToldAt}
use Rattle.ps_why.specs.Columns.{column_of}
use Rattle.ps_why.specs.Marked.{marks_of}
use Rattle.ps_why.specs.Page.{line_shown}
use Rattle.ps_why.specs.Shown.{shown_text}
use Rattle.ps_why.specs.ShownLine.{shown_line}
use Rattle.ps_why.specs.Wording.{sentence}

-- lines on a line of a text, a column, and words, by a cause that is true of the text: the line with the marks of the
-- cause, the column in which they begin, and the words of the cause. Of a text that is too long there is no line
pub record TellsTruth (text : List ℕ) (line column : ℕ) (lines words : List ℕ) : Type 0 where
  pub cause : Cause
  pub is_true : IsToldAt text line cause
  pub are_lines : lines ≡ (if nat_lt TEXT_LIMIT (length text) then []
      else line_shown text (shown_line line cause) (marks_of cause))
  pub is_column : column ≡ column_of text line (marks_of cause)
  pub are_words : words ≡ shown_text (sentence cause)
