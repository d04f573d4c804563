-- One written line more.
use Rattle.std.proofs.Common.{◌≡◌, ℕ, suc, ◌<◌, Bool, true, false, List, [], ◌∷◌, ◌++◌, length, drop, get_or, refl}
use Rattle.std.proofs.Common.{append_assoc}
use Rattle.std.proofs.Math.Seq.{drop-cons}
use Rattle.ps_model.specs.declared.texts.Cut.{Cut}
use Rattle.ps_model.specs.text.Lines.{Line, is_blank_line}
use Rattle.ps_model.specs.text.LineNumbers.{line_at}
use Rattle.ps_model.specs.text.WrittenLines.{WrittenLine, written_lines}
use Rattle.ps_names.specs.LinesThere.{lines_at}

split_by : (cut : Cut) (line : Line) (others : List Line) (blank : Bool) → is_blank_line line ≡ blank
    → written_lines cut (line ∷ others) ≡ written_lines cut (line ∷ []) ++ written_lines cut others
split_by cut line others true e = rw e refl
split_by cut line others false e = rw e refl

-- the lines after what was made, with one line more
pub written-step : (text : List ℕ) (cut : Cut) (made added : List WrittenLine) (lines : List ℕ) (k next d : ℕ) →
    k < length lines → next ≡ suc k
    → added ≡ made ++ written_lines cut (line_at text (get_or lines k d) ∷ [])
    → added ++ written_lines cut (lines_at text (drop next lines)) ≡ made ++ written_lines cut
    (lines_at text (drop k lines))
written-step text cut made added lines k next d less n e =
    rw (
      n,
      drop-cons lines k d less,
      e,
      split_by cut (line_at text (get_or lines k d))
          (lines_at text (drop (suc k) lines)) _ refl,
    )
    (append_assoc made (written_lines cut (line_at text (get_or lines k d) ∷ []))
    (written_lines cut (lines_at text (drop (suc k) lines))))
