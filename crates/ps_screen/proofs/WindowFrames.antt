-- Frames of a part of a board.
use Rattle.std.proofs.Common.{◌≡◌, ◌∙◌, ℕ, suc, ◌+◌, ◌*◌, ◌-◌, ◌<◌, ◌≤◌, List, [], ◌∷◌, ◌++◌, length, take, drop}
use Rattle.std.proofs.Common.{length-append, length-drop, append_assoc, drop_of_length-le, sym, ap, ap₂, arith}
use Rattle.std.specs.Prelude.{codes, slice_set}
use Rattle.std.specs.List.{flat_map, range_with_len}
use Rattle.std.proofs.Math.Nat.{mul-le-mul_left}
use Rattle.std.proofs.lemmas.List.{length-take-le, set_split, take-take}
use Rattle.std.proofs.Math.Seq.{take-append-add}
use Rattle.ps_model.specs.declared.rooms.Window.{Window}
use Rattle.ps_model.specs.board.Grid.{Grid}
use Rattle.ps_model.specs.names.Names.{Names}
use Rattle.ps_model.specs.session.Frames.{frame_row}
use Rattle.ps_model.specs.session.Rooms.{window_frame, window_row}
use Rattle.ps_screen.specs.PlainFrames.{IsPlainFrame}
use Rattle.ps_screen.specs.PlainRows.{column_bytes}
use Rattle.ps_screen.specs.Windows.{IsWindowOf}
use Rattle.ps_screen.proofs.PlainFrames.{rows_part}

-- rows that have all columns ------------------------------------------------------------------------------------------

-- they are rows of the frame
whole_window_rows : (names : Names) (g : Grid) (window : Window) (a n : ℕ) → window.first_column ≡ 0 →
    window.columns ≡ g.width →
    flat_map (window_row names g window) (range_with_len a n) ≡ flat_map (frame_row names g) (range_with_len a n)
whole_window_rows names g window a n first all =
    ap₂ (λ (begin count : ℕ). flat_map (λ (row : ℕ).
    flat_map (column_bytes names g row) (range_with_len begin count) ++ codes "\n") (range_with_len a n)) first all

-- and stand in a plain frame one after the other
pub whole_rows : (names : Names) (g : Grid) (window : Window) (text : List ℕ) (bytes start count : ℕ) →
    IsWindowOf g window → window.columns ≡ g.width → IsPlainFrame names g text →
    bytes ≡ window.columns + 1 → start ≡ window.first_row * bytes → count ≡ window.rows * bytes →
    take count (drop start text) ++ codes "\n" ≡ window_frame names g window
whole_rows names g window text bytes start count within all plain is begin long =
    let wide : bytes ≡ g.width + 1 = is ∙ ap (λ (n : ℕ). n + 1) all in
    ap (λ (rows : List ℕ). rows ++ codes "\n")
    (ap₂ (λ (n m : ℕ). take n (drop m text)) (long ∙ ap (λ (b : ℕ). window.rows * b) wide) (begin
    ∙ ap (λ (b : ℕ). window.first_row * b) wide)
    ∙ sym (rows_part names g text plain.each window.first_row window.rows within.rows)
    ∙ sym (whole_window_rows names g window window.first_row window.rows (omega (arith, within.columns, all)) all))

-- they end before the text does
pub rows_within : (names : Names) (g : Grid) (window : Window) (text : List ℕ) (bytes start count : ℕ) →
    IsWindowOf g window → window.columns ≡ g.width → IsPlainFrame names g text →
    bytes ≡ window.columns + 1 → start ≡ window.first_row * bytes → count ≡ window.rows * bytes →
    start + count ≤ length text
rows_within names g window text bytes start count within all plain is begin long =
    let both : (g.width + 1) * (window.first_row + window.rows) ≤ (g.width + 1) * g.height =
    mul-le-mul_left (g.width + 1) within.rows in
    let here : start ≡ window.first_row * (g.width + 1) = begin
    ∙ ap (λ (b : ℕ). window.first_row * b) (is ∙ ap (λ (n : ℕ). n + 1) all) in
    let more : count ≡ window.rows * (g.width + 1) = long
    ∙ ap (λ (b : ℕ). window.rows * b) (is ∙ ap (λ (n : ℕ). n + 1) all) in
    let parts : (window.first_row + window.rows) * (g.width + 1) ≡ window.first_row * (g.width + 1) + window.rows *
    (g.width + 1) = omega arith in
    omega (arith, both, here, more, parts, plain.long)

-- a row whose last byte becomes its line feed -------------------------------------------------------------------------

pub last_ended : (old bytes : List ℕ) (last : ℕ) → 0 < length bytes → last ≡ length (old ++ bytes) - 1 →
    slice_set (old ++ bytes) last 10 ≡ old ++ (take (length bytes - 1) bytes ++ codes "\n")
last_ended old bytes last some is =
    let both : length (old ++ bytes) ≡ length old + length bytes = length-append old bytes in
    let place : last ≡ length old + (length bytes - 1) = omega (arith, is, both, some) in
    let within : length old + (length bytes - 1) < length (old ++ bytes) = omega (arith, both, some) in
    let all : length (old ++ bytes) ≤ suc (length old + (length bytes - 1)) = omega (arith, both, some) in
    rw place
    (set_split (old ++ bytes) (length old + (length bytes - 1)) 10 within
    ∙ ap₂ (λ (front back : List ℕ). front ++ 10 ∷ back) (take-append-add old bytes (length bytes - 1))
    (drop_of_length-le (old ++ bytes) all)
    ∙ append_assoc old (take (length bytes - 1) bytes) (10 ∷ []))

-- a stretch of one byte more, without that one
pub part_ended : (text bytes : List ℕ) (first count : ℕ) → first + (count + 1) ≤ length text →
    bytes ≡ take (count + 1) (drop first text) → take (length bytes - 1) bytes ≡ take count (drop first text)
part_ended text bytes first count within is =
    let rest : length (drop first text) ≡ length text - first = length-drop first text in
    let long : length (take (count + 1) (drop first text)) ≡ count + 1 =
    length-take-le (count + 1) (drop first text) (omega (arith, rest, within)) in
    rw is
    (ap (λ (n : ℕ). take n (take (count + 1) (drop first text))) (omega (arith, long))
    ∙ take-take count (count + 1) (drop first text) (omega arith))
