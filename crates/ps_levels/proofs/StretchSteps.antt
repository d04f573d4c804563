-- Lines of LEVELS, a line further.
use Rattle.std.proofs.Common.{◌≡◌, ℕ, suc, ◌+◌, ◌-◌, ◌<◌, ◌≤◌, Bool, true, false, ◌&&◌, List, [], ◌∷◌, ◌++◌, length}
use Rattle.std.proofs.Common.{take, drop, filter, refl, sym, ap, ◌∙◌, append_assoc, arith}
use Rattle.std.specs.Prelude.{not, if◌then◌else◌}
use Rattle.std.specs.List.{take_while, prefix_len}
use Rattle.std.proofs.Math.Seq.{take-add}
use Rattle.std.proofs.lemmas.List.{drop-drop, append-nil}
use Rattle.std.proofs.lemmas.List.Elements.{filter-append}
use Rattle.ps_model.specs.text.Lines.{Line, lines_of, is_blank_line}
use Rattle.ps_model.specs.text.LineNumbers.{line_at, lines_between}
use Rattle.ps_model.specs.session.LevelLines.{EntryLines, MessageLine, LevelRows, is_message, is_row, entries_at}
use Rattle.ps_model.specs.text.LineNumbers.{here}
use Rattle.ps_laws.proofs.common.LinesInOrder.{between-step, between-end}

-- a stretch in two parts
pub parted : (text : List ℕ) (from mid end : ℕ) → 1 ≤ from → from ≤ mid → mid ≤ end →
    lines_between text from end ≡ lines_between text from mid ++ lines_between text mid end
parted text from mid end one low high =
    let count : end - from ≡ (mid - from) + (end - mid) = omega arith in
    let place : (from - 1) + (mid - from) ≡ mid - 1 = omega arith in
    let behind : drop (mid - from) (drop (from - 1) (lines_of text)) ≡ drop (mid - 1) (lines_of text) =
    drop-drop (mid - from) (from - 1) (lines_of text) ∙ ap (λ (n : ℕ). drop n (lines_of text)) place in
    let cut : take (end - from) (drop (from - 1) (lines_of text)) ≡ take (mid - from) (drop (from - 1) (lines_of text))
    ++ take (end - mid) (drop (mid - 1) (lines_of text)) =
    ap (λ (n : ℕ). take n (drop (from - 1) (lines_of text))) count
    ∙ take-add (mid - from) (end - mid) (drop (from - 1) (lines_of text))
    ∙ ap (λ (lines : List Line). take (mid - from) (drop (from - 1) (lines_of text)) ++ take (end - mid) lines) behind
    in
    ap (filter (λ (line : Line). line.is_there)) cut
    ∙ filter-append (λ (line : Line). line.is_there) (take (mid - from) (drop (from - 1) (lines_of text)))
    (take (end - mid) (drop (mid - 1) (lines_of text)))

-- a line more at the end
pub one_more_line : (text : List ℕ) (from line : ℕ) → 1 ≤ from → from ≤ line → line < length (lines_of text) + 1 →
    lines_between text from (line + 1) ≡ lines_between text from line ++ here text line
one_more_line text from line one low high =
    let last : lines_between text line (line + 1) ≡ here text line =
    between-step text line (line + 1) (line + 1) (omega arith) (omega arith) (omega arith) refl
    ∙ ap (λ (lines : List Line). here text line ++ lines) (between-end text (line + 1) (line + 1) (omega arith))
    ∙ append-nil (here text line) in
    parted text from line (line + 1) one low (omega arith)
    ∙ ap (λ (lines : List Line). lines_between text from line ++ lines) last

there_by : (x : Line) (xs : List Line) (there other : Bool) → there && other ≡ true →
    (if there then x ∷ [] else []) ++ xs ≡ x ∷ xs
there_by x xs true other h = refl
there_by x xs false other h = absurd (let e = h in cc)

other_by : (there other : Bool) → there && not other ≡ true → other ≡ false
other_by true true h = absurd (let e = h in cc)
other_by true false h = refl
other_by false other h = absurd (let e = h in cc)

-- an entry by what its line is
abbrev entry_by : Bool → Bool → Bool → Line → List Line → List EntryLines
entry_by message row is_below_row line below = elim message as (λ b. List EntryLines) [
  | true ↦ MessageLine line ∷ []
  | false ↦ elim (row && not is_below_row) as (λ b.
      List EntryLines) [ true ↦ LevelRows line (take_while is_row below) ∷ [] | false ↦ [] ]
]

no_row_below : (message row : Bool) (line : Line) (below : List Line) → row ≡ false →
    entry_by message row true line below ≡ entry_by message row false line below
no_row_below true row line below e = refl
no_row_below false true line below e = absurd (let f = e in cc)
no_row_below false false line below e = refl

-- a line that is no row begins an entry or doesn't, whatever stands above it
pub ends-rows : (x : Line) (xs : List Line) → is_row x ≡ false → entries_at true (x ∷ xs) ≡ entries_at false (x ∷ xs)
ends-rows x xs e = ap (λ (entries : List EntryLines).
    entries ++ entries_at (is_row x) xs) (no_row_below (is_message x) (is_row x) x xs e)

pub none-taken : (x : Line) (xs : List Line) → is_row x ≡ false → take_while is_row (x ∷ xs) ≡ []
none-taken x xs e = rw e refl

row_in_level : (blank message : Bool) (line : Line) (below : List Line) → not blank && not message ≡ true →
    entry_by message (not blank && not message) true line below ≡ []
row_in_level true message line below e = absurd (let f = e in cc)
row_in_level false true line below e = absurd (let f = e in cc)
row_in_level false false line below e = refl

-- a row below a row begins no entry
pub within-level : (x : Line) (xs : List Line) → is_row x ≡ true → entries_at true (x ∷ xs) ≡ entries_at true xs
within-level x xs e =
    ap (λ (entries : List EntryLines). entries ++ entries_at (is_row x) xs)
    (row_in_level (is_blank_line x) (is_message x) x xs e) ∙ ap (λ (row : Bool). entries_at row xs) e

pub row-taken : (x : Line) (xs : List Line) → is_row x ≡ true → take_while is_row (x ∷ xs) ≡ x ∷ take_while is_row xs
row-taken x xs e = let more : 1 + prefix_len is_row xs ≡ suc (prefix_len is_row xs) = omega arith in rw (e, more) refl

-- a line that doesn't end a level
kept_by : (x : Line) (xs : List Line) (there row : Bool) → is_row x ≡ row → there && not row ≡ false →
    take_while is_row ((if there then x ∷ [] else []) ++ xs) ≡ (if there then x ∷ [] else []) ++ take_while is_row xs
kept_by x xs false row e h = refl
kept_by x xs true true e h = row-taken x xs e
kept_by x xs true false e h = absurd (let f = h in cc)

same_by : (x : Line) (xs : List Line) (there row : Bool) → is_row x ≡ row → there && not row ≡ false →
    entries_at true ((if there then x ∷ [] else []) ++ xs) ≡ entries_at true xs
same_by x xs false row e h = refl
same_by x xs true true e h = within-level x xs e
same_by x xs true false e h = absurd (let f = h in cc)

pub level-goes-on : (text : List ℕ) (from line end : ℕ) → 1 ≤ from → from ≤ line → line < end →
    end ≤ length (lines_of text) + 1 → (line_at text line).is_there && not (is_row (line_at text line)) ≡ false →
    (lines_between text from line ++ take_while is_row (lines_between text line end) ≡ lines_between text from
    (line + 1) ++ take_while is_row (lines_between text (line + 1) end))
    × (entries_at true (lines_between text line end) ≡ entries_at true (lines_between text (line + 1) end))
level-goes-on text from line end one low less within h =
    let x : Line = line_at text line in
    let rest : List Line = lines_between text (line + 1) end in
    let step : lines_between text line end ≡ here text line ++ rest =
    between-step text line (line + 1) end (omega arith) less within refl in (
      ap (λ (lines : List Line). lines_between text from line ++ take_while is_row lines) step
          ∙ ap (λ (lines : List Line). lines_between text from line ++ lines)
          (kept_by x rest x.is_there (is_row x) refl h)
          ∙ sym (append_assoc (lines_between text from line) (here text line) (take_while is_row rest))
          ∙ ap (λ (lines : List Line). lines ++ take_while is_row rest)
          (sym (one_more_line text from line one low (omega arith))),
      ap (entries_at true) step ∙ same_by x rest x.is_there (is_row x) refl h,
    )

pub level-ends : (text : List ℕ) (line end : ℕ) → 1 ≤ line → line < end → end ≤ length (lines_of text) + 1 →
    (line_at text line).is_there && not (is_row (line_at text line)) ≡ true →
    (take_while is_row (lines_between text line end) ≡ []) ×
    (entries_at true (lines_between text line end) ≡ entries_at false (lines_between text line end))
level-ends text line end one less within h =
    let x : Line = line_at text line in
    let rest : List Line = lines_between text (line + 1) end in
    let step : lines_between text line end ≡ x ∷ rest = between-step text line (line + 1) end one less within refl
    ∙ there_by x rest x.is_there (not (is_row x)) h in
    let row : is_row x ≡ false = other_by x.is_there (is_row x) h in (
      ap (take_while is_row) step ∙ none-taken x rest row,
      ap (entries_at true) step ∙ ends-rows x rest row ∙ ap (entries_at false) (sym step),
    )
