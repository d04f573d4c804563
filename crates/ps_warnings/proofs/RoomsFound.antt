-- The line that asks for rooms, a line further.
use Rattle.std.proofs.Common.{◌≡◌, ◌∙◌, ◌++◌, ◌+◌, ◌<◌, ◌≤◌, ℕ, Bool, true, false, cond, Option, Some, None}
use Rattle.std.proofs.Common.{List, [], ◌∷◌, length, refl, sym, ap}
use Rattle.std.specs.List.{list_any}
use Rattle.ps_model.specs.text.Lines.{Line, lines_of}
use Rattle.ps_model.specs.text.LineNumbers.{here, line_at, lines_between}
use Rattle.ps_model.specs.text.Preludes.{asks_for_rooms}
use Rattle.ps_laws.proofs.common.LinesInOrder.{between-end, between-step, line_at-number}
use Rattle.ps_warnings.specs.RoomWarnings.{line_of_rooms}

-- the number of a line, if it asks for rooms, and else that of another
abbrev number_or : Line → Bool → Option ℕ → Option ℕ
number_or line asks other = cond asks (Some line.number) other

-- a line that may be there
found_in : (there asks : Bool) (line : Line) (rest : List Line) → asks_for_rooms line ≡ asks →
    line_of_rooms (cond there (line ∷ []) [] ++ rest)
    ≡ cond (list_any asks_for_rooms (cond there (line ∷ []) [])) (Some line.number) (line_of_rooms rest)
found_in false asks line rest e = refl
found_in true true line rest e = rw e refl
found_in true false line rest e = rw e refl

module _ (text : List ℕ) (line end : ℕ) (low : 1 ≤ line) (within : line < end)
    (high : end ≤ length (lines_of text) + 1) where
  step : line_of_rooms (lines_between text line end)
      ≡ cond (list_any asks_for_rooms (here text line)) (Some (line_at text line).number)
      (line_of_rooms (lines_between text (line + 1) end))
  step = ap line_of_rooms (between-step text line (line + 1) end low within high refl)
      ∙ found_in (line_at text line).is_there (asks_for_rooms (line_at text line)) (line_at text line)
      (lines_between text (line + 1) end) refl

  -- a line that asks for none
  pub not_here : list_any asks_for_rooms (here text line) ≡ false →
      line_of_rooms (lines_between text (line + 1) end) ≡ line_of_rooms (lines_between text line end)
  not_here e = sym (step ∙ ap (λ (asks : Bool). cond asks (Some (line_at text line).number)
      (line_of_rooms (lines_between text (line + 1) end))) e)

  -- a line that asks for some
  pub is_here : list_any asks_for_rooms (here text line) ≡ true → line ≤ length (lines_of text) →
      Some line ≡ line_of_rooms (lines_between text line end)
  is_here e own = sym (step ∙ ap (λ (asks : Bool). cond asks (Some (line_at text line).number)
      (line_of_rooms (lines_between text (line + 1) end))) e ∙ ap Some (line_at-number text line low own))

-- no line is left
pub none_left : (text : List ℕ) (line end : ℕ) (whole : Option ℕ) → end ≤ line →
    line_of_rooms (lines_between text line end) ≡ whole → None ≡ whole
none_left text line end whole past was = sym (ap line_of_rooms (between-end text line end past)) ∙ was
