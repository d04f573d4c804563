-- A view that takes one more piece.
use Rattle.std.proofs.Common.{◌≡◌, ◌∙◌, ℕ, Bool, true, false, true≢false, List, [], ◌∷◌, ◌++◌, take, refl, sym, ap, ap₂}
use Rattle.std.proofs.Common.{append_assoc, append-nil, subst}
use Rattle.std.specs.Prelude.{Option, Some, None, option_map, is_none, ◌&&◌, ◌||◌, All, IfSome, Result, Ok, Err, OnOk, is_err}
use Rattle.ps_devices.specs.Devices.{Grows}
use Rattle.ps_view.specs.declared.sizes.Size.{Size}
use Rattle.ps_view.specs.Beginnings.{Beginning}
use Rattle.ps_view.specs.Pieces.{Piece, HasSize, piece_of, view_behind_pieces, handed_on_pieces, output_of}
use Rattle.ps_view.specs.Shown.{IsShown, IsShownInPart, are_unsized, first_view, view_then}
use Rattle.ps_view.specs.Views.{View, Step, is_size, piece_step}
use Rattle.std.proofs.lemmas.List.Elements.{All-nil, All-cons}

-- the view behind it
pub view_behind_one : (view : View) (pieces : List Piece) (told : Option Size) (bytes : List ℕ) →
    view_behind_pieces view (pieces ++ piece_of told bytes ∷ []) ≡ (piece_step (view_behind_pieces view pieces) told bytes).view
view_behind_one view [] told bytes = refl
view_behind_one view (piece ∷ pieces) told bytes = view_behind_one (piece_step view piece.told piece.bytes).view pieces told bytes

-- what is handed on then
pub handed_on_one : (view : View) (pieces : List Piece) (told : Option Size) (bytes : List ℕ) →
    handed_on_pieces view (pieces ++ piece_of told bytes ∷ [])
    ≡ handed_on_pieces view pieces ++ (piece_step (view_behind_pieces view pieces) told bytes).bytes
handed_on_one view [] told bytes = append-nil (piece_step view told bytes).bytes
handed_on_one view (piece ∷ pieces) told bytes =
    let step : Step = piece_step view piece.told piece.bytes in
    ap (λ (rest : List ℕ). step.bytes ++ rest) (handed_on_one step.view pieces told bytes)
    ∙ sym (append_assoc step.bytes (handed_on_pieces step.view pieces) _)

-- what was taken then
pub output_of_one : (pieces : List Piece) (told : Option Size) (bytes : List ℕ) →
    output_of (pieces ++ piece_of told bytes ∷ []) ≡ output_of pieces ++ bytes
output_of_one [] told bytes = append-nil bytes
output_of_one (piece ∷ pieces) told bytes =
    ap (λ (rest : List ℕ). piece.bytes ++ rest) (output_of_one pieces told bytes)
    ∙ sym (append_assoc piece.bytes (output_of pieces) bytes)

-- a writer that grows twice
pub grown_twice : (a b c : Option (List ℕ)) (x y : List ℕ) → Grows a b x → Grows b c y → Grows a c (x ++ y)
grown_twice None b c x y h k = rw (k, h) refl
grown_twice (Some a) b c x y h k = rw (k, h) (ap Some (append_assoc a x y))

-- what is shown is shown in part
pub shown_in_part : (begun : Beginning) (pieces : List Piece) (after : Option (List ℕ)) → IsShown begun pieces after →
    IsShownInPart begun pieces after
shown_in_part begun pieces after shown = ∣ record {
  next = piece_of None [];
  count = 0;
  wrote = shown ∙ ap (λ (bytes : List ℕ). option_map (λ known. known ++ bytes) begun.before)
      (sym (append-nil (handed_on_pieces (first_view begun) pieces)));
} ∣₁

-- what is shown, and a front of what comes of one more piece
pub shown_further : (begun : Beginning) (pieces : List Piece) (before after : Option (List ℕ)) (view : View)
    (told : Option Size) (bytes : List ℕ) (count : ℕ) → view ≡ view_then begun pieces → IsShown begun pieces before →
    Grows before after (take count (piece_step view told bytes).bytes) → IsShownInPart begun pieces after
shown_further begun pieces before after view told bytes count is shown more = ∣ record {
  next = piece_of told bytes;
  count = count;
  wrote = grown_twice begun.before before after (handed_on_pieces (first_view begun) pieces) _ shown
      (more ∙ ap (λ (v : View). option_map (λ known. known ++ take count (piece_step v told bytes).bytes) before) is);
} ∣₁

-- what is shown, and all that comes of one more piece
pub shown_with : (begun : Beginning) (pieces : List Piece) (before after : Option (List ℕ)) (view : View)
    (told : Option Size) (bytes : List ℕ) → view ≡ view_then begun pieces → IsShown begun pieces before →
    Grows before after (piece_step view told bytes).bytes →
    IsShown begun (pieces ++ piece_of told bytes ∷ []) after
shown_with begun pieces before after view told bytes is shown more =
    grown_twice begun.before before after (handed_on_pieces (first_view begun) pieces) _ shown
    (more ∙ ap (λ (v : View). option_map (λ known. known ++ (piece_step v told bytes).bytes) before) is)
    ∙ ap (λ (bytes : List ℕ). option_map (λ known. known ++ bytes) begun.before)
    (sym (handed_on_one (first_view begun) pieces told bytes))

-- where nothing was taken, the writer has what it had
grown_by_none : (a : Option (List ℕ)) → Grows a a []
grown_by_none None = refl
grown_by_none (Some known) = ap Some (sym (append-nil known))

pub begins_shown : (begun : Beginning) (pieces : List Piece) (after : Option (List ℕ)) → pieces ≡ [] → begun.before ≡ after →
    IsShown begun pieces after
begins_shown begun pieces after none is =
    let Shown : List Piece → Type 0 = λ taken. IsShown begun taken after in
    let Grown : Option (List ℕ) → Type 0 = λ a. Grows begun.before a [] in
    subst Shown (sym none) (subst Grown is (grown_by_none begun.before))

-- both of two
both : (a b : Bool) → (a && b) ≡ true → (a ≡ true) × (b ≡ true)
both true true e = (refl, refl)
both true false e = (refl, e)
both false b e = absurd (true≢false (sym e))

-- no size before one piece more
pub unsized_one : (pieces : List Piece) (told : Option Size) (bytes : List ℕ) → are_unsized pieces ≡ true → told ≡ None →
    are_unsized (pieces ++ piece_of told bytes ∷ []) ≡ true
unsized_one [] told bytes all none = rw none refl
unsized_one (piece ∷ pieces) told bytes all none =
    let each = both (is_none piece.told) (are_unsized pieces) all in
    rw each.0 (unsized_one pieces told bytes each.1 none)

-- where none is told, none is another
no_other : (size : Size) (told : Option Size) → is_none told ≡ true → IfSome told (λ other. is_size size other ≡ true)
no_other size None e = tt
no_other size (Some other) e = absurd (true≢false (sym e))

pub unsized_all : (size : Size) (pieces : List Piece) → are_unsized pieces ≡ true → All (HasSize size) pieces
unsized_all size [] e = All-nil (HasSize size)
unsized_all size (piece ∷ pieces) e =
    let each = both (is_none piece.told) (are_unsized pieces) e in
    All-cons (HasSize size) piece pieces (no_other size piece.told each.0) (unsized_all size pieces each.1)

-- a view whose writer has failed is none that goes on
pub not_failed : (a b : Bool) {X : Type 0} → a ≡ true → (a || b) ≡ false → X
not_failed true b is e = absurd (true≢false e)
not_failed false b is e = absurd (true≢false (sym is))

-- of a view that goes on the writer below hasn't failed
pub writer_well : (a b : Bool) → (a || b) ≡ false → a ≡ false
writer_well false b e = refl
writer_well true b e = absurd (true≢false e)

-- what goes where the writer below hasn't failed, goes for one that has
pub has_failed : (a : Bool) {X : Type 0} → a ≡ true → a ≡ false → X
has_failed a is e = absurd (true≢false (sym is ∙ e))

pub still_well : (a a' b b' d d' : Bool) → a' ≡ a → b' ≡ b → d' ≡ d → (a || (b || d)) ≡ false → (a' || (b' || d')) ≡ false
still_well a a' b b' d d' p q r e =
    ap₂ (λ (x y : Bool). x || y) p (ap₂ (λ (x y : Bool). x || y) q r) ∙ e

-- what holds where a call succeeds, after one that did
pub on_no_error : {T E : Type 0} {P : Type 0} (answer : Result T E) → is_err answer ≡ false → OnOk answer P → P
on_no_error (Ok value) e is = is
on_no_error (Err fault) e is = absurd (true≢false e)

-- a view that has taken one more piece
pub piece_behind : (b b' : Beginning) (ps ps' : List Piece) (view view' : View) (told : Option Size) (bytes : List ℕ) →
    view ≡ view_then b ps → view' ≡ (piece_step view told bytes).view → b' ≡ b → ps' ≡ ps ++ piece_of told bytes ∷ [] →
    view' ≡ view_then b' ps'
piece_behind b b' ps ps' view view' told bytes is made same more =
    made ∙ ap (λ (v : View). (piece_step v told bytes).view) is ∙ sym (view_behind_one (first_view b) ps told bytes)
    ∙ sym (ap₂ (λ (x : Beginning) (taken : List Piece). view_then x taken) same more)

-- and what the writer below has then
pub piece_shown : (b b' : Beginning) (ps ps' : List Piece) (before after : Option (List ℕ)) (view : View)
    (told : Option Size) (bytes orders : List ℕ) → view ≡ view_then b ps → IsShown b ps before →
    orders ≡ (piece_step view told bytes).bytes → Grows before after orders → b' ≡ b →
    ps' ≡ ps ++ piece_of told bytes ∷ [] → IsShown b' ps' after
piece_shown b b' ps ps' before after view told bytes orders is shown made wrote same more =
    let With : Beginning → Type 0 = λ x. IsShown x ps' after in
    let Taken : List Piece → Type 0 = λ taken. IsShown b taken after in
    subst With (sym same) (subst Taken (sym more) (shown_with b ps before after view told bytes is shown
    (wrote ∙ ap (λ (out : List ℕ). option_map (λ known. known ++ out) before) made)))

-- or only a front of it
pub front_shown : (b : Beginning) (ps : List Piece) (before after : Option (List ℕ)) (view : View)
    (told : Option Size) (bytes orders : List ℕ) (count : ℕ) → view ≡ view_then b ps → IsShown b ps before →
    orders ≡ (piece_step view told bytes).bytes → Grows before after (take count orders) → IsShownInPart b ps after
front_shown b ps before after view told bytes orders count is shown made wrote =
    shown_further b ps before after view told bytes count is shown
    (wrote ∙ ap (λ (out : List ℕ). option_map (λ known. known ++ take count out) before) made)

pub unsized_then : (ps ps' : List Piece) (told : Option Size) (bytes : List ℕ) → ps' ≡ ps ++ piece_of told bytes ∷ [] →
    are_unsized ps ≡ true → told ≡ None → are_unsized ps' ≡ true
unsized_then ps ps' told bytes more all none = ap are_unsized more ∙ unsized_one ps told bytes all none
