-- A view, bytes and pieces further; and lists that grow by one more.
use Rattle.std.proofs.Common.{◌≡◌, ◌∙◌, ℕ, suc, zero, ◌+◌, List, [], ◌∷◌, ◌++◌, refl, sym}
use Rattle.std.proofs.Common.{ap, ap₂, append_assoc, append-nil, arith, ◌≢◌, ◌==◌, Bool, true, false}
use Rattle.std.specs.List.{flat_map, range_with_len}
use Rattle.std.proofs.lemmas.Bool.Decides.{nat_tests}
use Rattle.ps_view.specs.declared.line_kinds.LineKind.{LineKind}
use Rattle.ps_view.specs.declared.line_kinds.LineKind.TheVariants.{Row}
use Rattle.ps_view.specs.LineFeeds.{EndsNoLine}
use Rattle.ps_view.specs.LineKinds.{kind_of}
use Rattle.ps_view.specs.Views.{View, Step, byte_step, handed_on, line_told, quietly, view_behind, with_byte, with_bytes}
use Rattle.ps_view.specs.Views.{with_row}
use Rattle.ps_view.specs.Pieces.{PiecesAreAsTheWhole, PiecesLeaveTheSame}
use Rattle.ps_view.proofs.Such.{first_of, others_of}

-- the view behind two pieces
pub view_behind-append : PiecesLeaveTheSame
view_behind-append view [] second = refl
view_behind-append view (byte ∷ first) second = view_behind-append (byte_step view byte).view first second

-- what is handed on for two pieces
pub handed_on-append : PiecesAreAsTheWhole
handed_on-append view [] second = refl
handed_on-append view (byte ∷ first) second =
    ap (λ (rest : List ℕ). (byte_step view byte).bytes ++ rest)
    (handed_on-append (byte_step view byte).view first second)
    ∙ sym (append_assoc (byte_step view byte).bytes (handed_on (byte_step view byte).view first) _)

-- behind the ending nothing is heard
pub over_behind : (view : View) (bytes : List ℕ) → view.is_over ≡ true → view_behind view bytes ≡ view
over_behind view [] over = refl
over_behind view (byte ∷ bytes) over =
    let same : byte_step view byte ≡ quietly view = rw over refl in
    ap (λ (step : Step). view_behind step.view bytes) same ∙ over_behind view bytes over

pub over_handed_on : (view : View) (bytes : List ℕ) → view.is_over ≡ true → handed_on view bytes ≡ []
over_handed_on view [] over = refl
over_handed_on view (byte ∷ bytes) over =
    let same : byte_step view byte ≡ quietly view = rw over refl in
    ap (λ (step : Step). step.bytes ++ handed_on step.view bytes) same ∙ over_handed_on view bytes over

-- bytes that end no line are gathered
gathered : (view : View) (byte : ℕ) → view.is_over ≡ false → byte ≢ 10 →
    byte_step view byte ≡ quietly (with_byte view byte)
gathered view byte goes other =
    let no : (byte == 10) ≡ false = grind (arith, nat_tests) in
    ap₂ (λ (over ends : Bool). let step : Step = elim over [
      | true ↦ quietly view
      | false ↦ elim ends [
        | true ↦ line_told view (kind_of view.line)
        | false ↦ quietly (with_byte view byte)
      ]
    ] in step) goes no

pub front_behind : (view : View) (bytes : List ℕ) → view.is_over ≡ false → EndsNoLine bytes →
    view_behind view bytes ≡ with_bytes view bytes
front_behind view [] goes none = ap (λ (line : List ℕ). let v : View = record view { line = line } in v) (sym (append-nil view.line))
front_behind view (byte ∷ bytes) goes none =
    let first = gathered view byte goes (first_of (λ (b : ℕ). b ≢ 10) byte bytes none) in
    let others = others_of (λ (b : ℕ). b ≢ 10) byte bytes none in
    ap (λ (step : Step). view_behind step.view bytes) first ∙ front_behind (with_byte view byte) bytes goes others
    ∙ ap (λ (line : List ℕ). let v : View = record view { line = line } in v) (append_assoc view.line (byte ∷ []) bytes)

pub front_handed_on : (view : View) (bytes : List ℕ) → view.is_over ≡ false → EndsNoLine bytes →
    handed_on view bytes ≡ []
front_handed_on view [] goes none = refl
front_handed_on view (byte ∷ bytes) goes none =
    let first = gathered view byte goes (first_of (λ (b : ℕ). b ≢ 10) byte bytes none) in
    let others = others_of (λ (b : ℕ). b ≢ 10) byte bytes none in
    ap (λ (step : Step). step.bytes ++ handed_on step.view bytes) first
    ∙ front_handed_on (with_byte view byte) bytes goes others

pub quiet_handed_on : (view : View) (bytes : List ℕ) (over : Bool) → view.is_over ≡ over → EndsNoLine bytes →
    handed_on view bytes ≡ []
quiet_handed_on view bytes true is none = over_handed_on view bytes is
quiet_handed_on view bytes false is none = front_handed_on view bytes is none

-- and a line feed tells the line
ended : (view : View) → view.is_over ≡ false → byte_step view 10 ≡ line_told view (kind_of view.line)
ended view goes = rw goes refl

pub line_behind : (view : View) (bytes : List ℕ) → view.is_over ≡ false → EndsNoLine bytes →
    view_behind view (bytes ++ 10 ∷ []) ≡ (line_told (with_bytes view bytes) (kind_of (view.line ++ bytes))).view
line_behind view bytes goes none =
    view_behind-append view bytes (10 ∷ [])
    ∙ ap (λ (v : View). (byte_step v 10).view) (front_behind view bytes goes none)
    ∙ ap (λ (step : Step). step.view) (ended (with_bytes view bytes) goes)

pub line_handed_on : (view : View) (bytes : List ℕ) → view.is_over ≡ false → EndsNoLine bytes →
    handed_on view (bytes ++ 10 ∷ []) ≡ (line_told (with_bytes view bytes) (kind_of (view.line ++ bytes))).bytes
line_handed_on view bytes goes none =
    handed_on-append view bytes (10 ∷ [])
    ∙ ap (λ (orders : List ℕ). orders ++ handed_on (view_behind view bytes) (10 ∷ [])) (front_handed_on view bytes goes none)
    ∙ append-nil (byte_step (view_behind view bytes) 10).bytes
    ∙ ap (λ (v : View). (byte_step v 10).bytes) (front_behind view bytes goes none)
    ∙ ap (λ (step : Step). step.bytes) (ended (with_bytes view bytes) goes)

-- a whole row needs no gathering
pub whole_row_behind : (view : View) (row : List ℕ) → view.is_over ≡ false → EndsNoLine row → view.line ≡ [] →
    kind_of row ≡ Row → view_behind view (row ++ 10 ∷ []) ≡ with_row view row
whole_row_behind view row goes none empty is =
    let line : view.line ++ row ≡ row = ap (λ (begun : List ℕ). begun ++ row) empty in
    line_behind view row goes none
    ∙ ap (λ (kind : LineKind). (line_told (with_bytes view row) kind).view) (ap kind_of line ∙ is)
    ∙ ap (with_row view) line

pub whole_row_handed_on : (view : View) (row : List ℕ) → view.is_over ≡ false → EndsNoLine row → view.line ≡ [] →
    kind_of row ≡ Row → handed_on view (row ++ 10 ∷ []) ≡ []
whole_row_handed_on view row goes none empty is =
    let line : view.line ++ row ≡ row = ap (λ (begun : List ℕ). begun ++ row) empty in
    line_handed_on view row goes none
    ∙ ap (λ (kind : LineKind). (line_told (with_bytes view row) kind).bytes) (ap kind_of line ∙ is)

-- a line, and then others
pub cut_behind : (view : View) (bytes line others : List ℕ) → bytes ≡ line ++ 10 ∷ others →
    view_behind view bytes ≡ view_behind (view_behind view (line ++ 10 ∷ [])) others
cut_behind view bytes line others is =
    ap (view_behind view) (is ∙ sym (append_assoc line (10 ∷ []) others))
    ∙ view_behind-append view (line ++ 10 ∷ []) others

pub cut_handed_on : (view : View) (bytes line others : List ℕ) → bytes ≡ line ++ 10 ∷ others →
    handed_on view bytes
    ≡ handed_on view (line ++ 10 ∷ []) ++ handed_on (view_behind view (line ++ 10 ∷ [])) others
cut_handed_on view bytes line others is =
    ap (handed_on view) (is ∙ sym (append_assoc line (10 ∷ []) others))
    ∙ handed_on-append view (line ++ 10 ∷ []) others

-- what one more number brings
flat_map_range_more : (f : ℕ → List ℕ) (a n j : ℕ) → a + n ≡ j →
    flat_map f (range_with_len a (n + 1)) ≡ flat_map f (range_with_len a n) ++ f j
flat_map_range_more f a zero j e = let s : a ≡ j = omega arith in append-nil (f a) ∙ ap f s
flat_map_range_more f a (suc n) j e =
    let s : suc n + 1 ≡ suc (n + 1) = omega arith in
    let t : (a + 1) + n ≡ j = omega arith in
    rw s (ap (λ (xs : List ℕ). f a ++ xs) (flat_map_range_more f (a + 1) n j t)
    ∙ sym (append_assoc (f a) (flat_map f (range_with_len (a + 1) n)) (f j)))

-- what is gathered of a range, one number further
pub gathered_more : (f : ℕ → List ℕ) (n : ℕ) (before gathered more : List ℕ) →
    gathered ≡ before ++ flat_map f (range_with_len 0 n) → more ≡ gathered ++ f n →
    more ≡ before ++ flat_map f (range_with_len 0 (n + 1))
gathered_more f n before gathered more so_far is =
    is ∙ ap (λ (t : List ℕ). t ++ f n) so_far ∙ append_assoc before (flat_map f (range_with_len 0 n)) (f n)
    ∙ ap (λ (t : List ℕ). before ++ t) (sym (flat_map_range_more f 0 n n (omega arith)))
